-- The keys that a rising list has, with a key inserted or deleted, and that they decide which list it is.
use Rattle.std.proofs.Common.{◌≡◌, ℕ, zero, suc, ◌<◌, true, ◌⊎◌, ◌↔◌, List, [], ◌∷◌, length, get_or, Contains, Decides, Ordering, Less, Equal, Greater, sym, refl, ap, ◌∙◌, inl, inr, arith}
use Rattle.std.specs.Ordering.{ordering_reverse, match_ordering}
use Rattle.std.proofs.lemmas.Grind.{common_steps}
use Rattle.rising.specs.Order.{Order}
use Rattle.rising.specs.Lists.{rising, place, stands, insert, delete}
use Rattle.rising.specs.Laws.{Laws}
use Rattle.rising.proofs.Place.{Rises, rises_tail, below_each_head, rises_from_rising, rising_from_rises, stands_within, at_place}
use Rattle.rising.proofs.Search.{seeks}
use Rattle.rising.proofs.Edits.{insert_rises, delete_rises, stands_is}

module _ {K : Type 0} (cmp : K → K → Ordering) (order : Order cmp) where
  -- a key of a rising list is below k, k itself, or above
  pub standing : (xs : List K) (k : K) → rising cmp xs ≡ true → Decides (stands cmp xs k) (Contains xs k)
  standing xs k h =
      let up = rises_from_rising cmp order xs h in (
        (λ s. (place cmp xs k, stands_within cmp xs k s, stands_is cmp order xs k k s)),
        (λ m. (at_place cmp order xs k m.0 k up m.1 (ap (λ (y : K). cmp y k) m.2 ∙ order.itself k)).1),
      )

  has_here : (x : K) (xs : List K) (y : K) → x ≡ y → Contains (x ∷ xs) y
  has_here x xs y e = (0, omega arith, e)

  has_there : (x : K) (xs : List K) (y : K) → Contains xs y → Contains (x ∷ xs) y
  has_there x xs y h = let l = h.1 in (suc h.0, omega arith, h.2)

  split_at : (x : K) (xs : List K) (y : K) (m : ℕ) → m < suc (length xs) → get_or (x ∷ xs) m y ≡ y → (x ≡ y) ⊎ Contains xs y
  split_at x xs y zero l at = inl at
  split_at x xs y (suc m) l at = inr (m, omega arith, at)

  has_split : (x : K) (xs : List K) (y : K) → Contains (x ∷ xs) y → (x ≡ y) ⊎ Contains xs y
  has_split x xs y h = split_at x xs y h.0 h.1 h.2

  has_none : (y : K) → Contains {X = K} [] y → ⊥
  has_none y h = let l = h.1 in omega arith

  -- a key below each of a list, and the keys that it holds
  not_same : (x y : K) → cmp x y ≡ Less → x ≡ y → ⊥
  not_same x y l e = let f = order.itself x in grind (arith, common_steps)

  head_below : (x : K) (xs : List K) (y : K) → Rises cmp (x ∷ xs) → Contains xs y → cmp x y ≡ Less
  head_below x xs y up h = ap (cmp x) (sym h.2) ∙ below_each_head cmp x xs up h.0 y h.1

  -- a key that is in a list and is not its head is in its tail
  other : (z y : K) (ys : List K) → Contains (y ∷ ys) z → (y ≡ z → ⊥) → Contains ys z
  other z y ys h n = elim (has_split y ys z h) [ inl e ↦ absurd (n e) | inr m ↦ m ]

  -- of two rising lists that have the same keys, the heads are the same
  same_head : (x : K) (xs : List K) (y : K) (ys : List K) → Rises cmp (x ∷ xs) → Rises cmp (y ∷ ys) → ((z : K) → Contains (x ∷ xs) z ↔ Contains (y ∷ ys) z) → x ≡ y
  same_head x xs y ys p q m =
      elim (has_split y ys x ((m x).0 (has_here x xs x refl))) [
        | inl e ↦ sym e
        | inr h ↦ elim (has_split x xs y ((m y).1 (has_here y ys y refl))) [
          | inl e ↦ e
          | inr g ↦ absurd (not_same x x (order.carries x y x (head_below x xs y p g) (head_below y ys x q h)) refl)
        ]
      ]

  has_insert : (xs : List K) (k y : K) → (y ≡ k) ⊎ Contains xs y → Contains (insert cmp xs k) y
  has_insert [] k y h = elim h [ inl e ↦ has_here k [] y (sym e) | inr m ↦ absurd (has_none y m) ]
  has_insert (x ∷ xs) k y h =
      (elim (cmp x k) as (λ q. cmp x k ≡ q → Contains (match_ordering q (x ∷ insert cmp xs k) (x ∷ xs) (k ∷ x ∷ xs)) y) [
        | Less ↦ (λ e. elim h [ inl f ↦ has_there x (insert cmp xs k) y (has_insert xs k y (inl f)) | inr m ↦ elim (has_split x xs y m) [ inl f ↦ has_here x (insert cmp xs k) y f | inr n ↦ has_there x (insert cmp xs k) y (has_insert xs k y (inr n)) ] ])
        | Equal ↦ (λ e. elim h [ inl f ↦ has_here x xs y (order.same x k e ∙ sym f) | inr m ↦ m ])
        | Greater ↦ (λ e. elim h [ inl f ↦ has_here k (x ∷ xs) y (sym f) | inr m ↦ has_there k (x ∷ xs) y m ])
      ]) refl

  insert_has : (xs : List K) (k y : K) → Contains (insert cmp xs k) y → (y ≡ k) ⊎ Contains xs y
  insert_has [] k y = λ h. elim (has_split k [] y h) [ inl e ↦ inl (sym e) | inr m ↦ absurd (has_none y m) ]
  insert_has (x ∷ xs) k y =
      elim (cmp x k) as (λ q. Contains (match_ordering q (x ∷ insert cmp xs k) (x ∷ xs) (k ∷ x ∷ xs)) y → (y ≡ k) ⊎ Contains (x ∷ xs) y) [
        | Less ↦ (λ h. elim (has_split x (insert cmp xs k) y h) [ inl e ↦ inr (has_here x xs y e) | inr m ↦ elim (insert_has xs k y m) [ inl e ↦ inl e | inr n ↦ inr (has_there x xs y n) ] ])
        | Equal ↦ (λ h. inr h)
        | Greater ↦ (λ h. elim (has_split k (x ∷ xs) y h) [ inl e ↦ inl (sym e) | inr m ↦ inr m ])
      ]

  has_delete : (xs : List K) (k y : K) → (y ≡ k → ⊥) → Contains xs y → Contains (delete cmp xs k) y
  has_delete [] k y n h = h
  has_delete (x ∷ xs) k y n h =
      (elim (cmp x k) as (λ q. cmp x k ≡ q → Contains (match_ordering q (x ∷ delete cmp xs k) xs (x ∷ xs)) y) [
        | Less ↦ (λ e. elim (has_split x xs y h) [ inl f ↦ has_here x (delete cmp xs k) y f | inr m ↦ has_there x (delete cmp xs k) y (has_delete xs k y n m) ])
        | Equal ↦ (λ e. elim (has_split x xs y h) [ inl f ↦ absurd (n (sym f ∙ order.same x k e)) | inr m ↦ m ])
        | Greater ↦ (λ e. h)
      ]) refl

  delete_has : (xs : List K) (k y : K) → Rises cmp xs → Contains (delete cmp xs k) y → (y ≡ k → ⊥) × Contains xs y
  delete_has [] k y up = λ h. absurd (has_none y h)
  delete_has (x ∷ xs) k y up =
      (elim (cmp x k) as (λ q. cmp x k ≡ q → Contains (match_ordering q (x ∷ delete cmp xs k) xs (x ∷ xs)) y → (y ≡ k → ⊥) × Contains (x ∷ xs) y) [
        | Less ↦ (λ e h. elim (has_split x (delete cmp xs k) y h) [ inl f ↦ ((λ g. not_same x k e (f ∙ g)), has_here x xs y f) | inr m ↦ (let r = delete_has xs k y (rises_tail cmp x xs up) m in (r.0, has_there x xs y r.1)) ])
        | Equal ↦ (λ e h. ((λ g. not_same x y (head_below x xs y up h) (order.same x k e ∙ sym g)), has_there x xs y h))
        | Greater ↦ (λ e h. let l : cmp k x ≡ Less = order.exchanged x k ∙ ap ordering_reverse e in elim (has_split x xs y h) [ inl f ↦ ((λ g. not_same k x l (sym (f ∙ g))), h) | inr m ↦ ((λ g. not_same k y (order.carries k x y l (head_below x xs y up m)) (sym g)), h) ])
      ]) refl

  same_keys : (xs ys : List K) → Rises cmp xs → Rises cmp ys → ((y : K) → Contains xs y ↔ Contains ys y) → xs ≡ ys
  same_keys [] [] p q m = refl
  same_keys [] (y ∷ ys) p q m = absurd (has_none y ((m y).1 (has_here y ys y refl)))
  same_keys (x ∷ xs) [] p q m = absurd (has_none x ((m x).0 (has_here x xs x refl)))
  same_keys (x ∷ xs) (y ∷ ys) p q m =
      let e : x ≡ y = same_head x xs y ys p q m in
      let f : xs ≡ ys = same_keys xs ys (rises_tail cmp x xs p) (rises_tail cmp y ys q) (λ z. (
        (λ h. other z y ys ((m z).0 (has_there x xs z h)) (λ g. not_same x z (head_below x xs z p h) (e ∙ g))),
        (λ h. other z x xs ((m z).1 (has_there y ys z h)) (λ g. not_same y z (head_below y ys z q h) (sym e ∙ g))),
      )) in
      ap (λ (t : List K). x ∷ t) f ∙ ap (λ (t : K). t ∷ ys) e

  pub laws : Laws cmp
  laws = record {
    standing = standing;
    insert_rises = λ xs k h. rising_from_rises cmp (insert cmp xs k) (insert_rises cmp order xs k (rises_from_rising cmp order xs h));
    insert_has = λ xs k y h. (insert_has xs k y, has_insert xs k y);
    delete_rises = λ xs k h. rising_from_rises cmp (delete cmp xs k) (delete_rises cmp xs k (rises_from_rising cmp order xs h));
    delete_has = λ xs k y h. (delete_has xs k y (rises_from_rising cmp order xs h), λ m. has_delete xs k y m.0 m.1);
    halving_seeks = λ xs k h. seeks cmp order xs k (rises_from_rising cmp order xs h);
    one_list = λ xs ys p q m. same_keys xs ys (rises_from_rising cmp order xs p) (rises_from_rising cmp order ys q) m;
  }
