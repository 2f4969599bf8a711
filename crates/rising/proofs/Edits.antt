-- A key inserted into a rising list, or taken out of it: where it goes, and that the list rises after.
use Rattle.std.proofs.Common.{◌≡◌, suc, true, false, List, [], ◌∷◌, ◌++◌, length, get_or, Ordering, Less, Equal, Greater, refl, ap, ◌∙◌, arith}
use Rattle.std.specs.Ordering.{ordering_reverse, match_ordering}
use Rattle.std.specs.List as list
use Rattle.std.proofs.lemmas.Bool.{false≢true}
use Rattle.std.proofs.lemmas.Grind.{common_steps}
use Rattle.rising.specs.Order.{Order}
use Rattle.rising.specs.Lists.{place, stands, insert, delete}
use Rattle.rising.proofs.Place.{Rises, BelowEach, AboveEach, below_each_cons, below_each_tail, below_each_head, rises_cons, rises_tail}

module _ {K : Type 0} (cmp : K → K → Ordering) where
  below_each_insert : (x : K) (xs : List K) (k : K) → BelowEach cmp x xs → cmp x k ≡ Less → BelowEach cmp x (insert cmp xs k)
  below_each_insert x [] k o e = below_each_cons cmp x k [] e o
  below_each_insert x (y ∷ ys) k o e =
      elim (cmp y k) as (λ q. BelowEach cmp x (match_ordering q (y ∷ insert cmp ys k) (y ∷ ys) (k ∷ y ∷ ys)))
      [ Less ↦ below_each_cons cmp x y (insert cmp ys k) (o 0 y (omega arith)) (below_each_insert x ys k (below_each_tail cmp x y ys o) e) | Equal ↦ o | Greater ↦ below_each_cons cmp x k (y ∷ ys) e o ]

  below_each_delete : (x : K) (xs : List K) (k : K) → BelowEach cmp x xs → BelowEach cmp x (delete cmp xs k)
  below_each_delete x [] k o = o
  below_each_delete x (y ∷ ys) k o =
      elim (cmp y k) as (λ q. BelowEach cmp x (match_ordering q (y ∷ delete cmp ys k) ys (y ∷ ys)))
      [ Less ↦ below_each_cons cmp x y (delete cmp ys k) (o 0 y (omega arith)) (below_each_delete x ys k (below_each_tail cmp x y ys o)) | Equal ↦ below_each_tail cmp x y ys o | Greater ↦ o ]

  pub insert_inserted : (xs : List K) (k : K) → stands cmp xs k ≡ false → insert cmp xs k ≡ list.insert xs (place cmp xs k) k
  insert_inserted [] k h = refl
  insert_inserted (x ∷ xs) k h =
      let ih = insert_inserted xs k in
      grind (arith, common_steps)

  pub delete_removed : (xs : List K) (k : K) → stands cmp xs k ≡ true → delete cmp xs k ≡ list.remove xs (place cmp xs k)
  delete_removed [] k h = refl
  delete_removed (x ∷ xs) k h =
      let ih = delete_removed xs k in
      grind (arith, common_steps)

  pub length_insert : (xs : List K) (k : K) → stands cmp xs k ≡ false → length (insert cmp xs k) ≡ suc (length xs)
  length_insert [] k h = refl
  length_insert (x ∷ xs) k h =
      let ih = length_insert xs k in
      grind (arith, common_steps)

  pub length_delete : (xs : List K) (k : K) → stands cmp xs k ≡ true → suc (length (delete cmp xs k)) ≡ length xs
  length_delete [] k h = absurd (false≢true h)
  length_delete (x ∷ xs) k h =
      let ih = length_delete xs k in
      grind (arith, common_steps)

  -- a key above each of a list goes to its end
  pub insert_last : (xs : List K) (k : K) → AboveEach cmp xs k → insert cmp xs k ≡ xs ++ k ∷ []
  insert_last [] k a = refl
  insert_last (x ∷ xs) k a =
      let first : cmp x k ≡ Less = a 0 x (omega arith) in
      rw first (ap (λ (t : List K). x ∷ t) (insert_last xs k (λ j d h. a (suc j) d (omega arith))))

  pub stands_last : (xs : List K) (k : K) → AboveEach cmp xs k → stands cmp xs k ≡ false
  stands_last [] k a = refl
  stands_last (x ∷ xs) k a =
      let first : cmp x k ≡ Less = a 0 x (omega arith) in
      rw first (stands_last xs k (λ j d h. a (suc j) d (omega arith)))

  pub delete_rises : (xs : List K) (k : K) → Rises cmp xs → Rises cmp (delete cmp xs k)
  delete_rises [] k up = up
  delete_rises (x ∷ xs) k up =
      elim (cmp x k) as (λ q. Rises cmp (match_ordering q (x ∷ delete cmp xs k) xs (x ∷ xs)))
      [ Less ↦ rises_cons cmp x (delete cmp xs k) (below_each_delete x xs k (below_each_head cmp x xs up)) (delete_rises xs k (rises_tail cmp x xs up)) | Equal ↦ rises_tail cmp x xs up | Greater ↦ up ]

  module _ (order : Order cmp) where
    pub insert_rises : (xs : List K) (k : K) → Rises cmp xs → Rises cmp (insert cmp xs k)
    insert_rises [] k up = rises_cons cmp k [] (λ j d h. absurd (omega arith)) up
    insert_rises (x ∷ xs) k up =
        (elim (cmp x k) as (λ q. cmp x k ≡ q → Rises cmp (match_ordering q (x ∷ insert cmp xs k) (x ∷ xs) (k ∷ x ∷ xs))) [
          | Less ↦ (λ e. rises_cons cmp x (insert cmp xs k) (below_each_insert x xs k (below_each_head cmp x xs up) e) (insert_rises xs k (rises_tail cmp x xs up)))
          | Equal ↦ (λ e. up)
          | Greater ↦ (λ e. let f : cmp k x ≡ Less = order.exchanged x k ∙ ap ordering_reverse e in rises_cons cmp k (x ∷ xs) (below_each_cons cmp k x xs f (λ j d h. order.carries k x (get_or xs j d) f (below_each_head cmp x xs up j d h))) up)
        ]) refl

    -- the key that stands is the one that is sought
    pub stands_is : (xs : List K) (k d : K) → stands cmp xs k ≡ true → get_or xs (place cmp xs k) d ≡ k
    stands_is [] k d h = absurd (false≢true h)
    stands_is (x ∷ xs) k d h =
        let rest = stands_is xs k d in
        let same = order.same x k in
        grind (arith, common_steps)
