-- Where a key's place lies, by what the key at an index compares as.
use Rattle.std.proofs.Common.{◌≡◌, ℕ, zero, suc, ◌<◌, ◌≤◌, true, List, [], ◌∷◌, ◌++◌, length, get_or, Ordering, Less, Equal, Greater, sym, refl, ap, ◌∙◌, subst, arith, length-append}
use Rattle.std.specs.Ordering.{is_lt}
use Rattle.std.proofs.lemmas.List.{get_or_append_left, get_or_at}
use Rattle.std.proofs.lemmas.Bool.{false≢true, and_parts}
use Rattle.std.proofs.lemmas.Grind.{common_steps}
use Rattle.rising.specs.Order.{Order}
use Rattle.rising.specs.Lists.{rising, place, stands}

is_less : (o : Ordering) → is_lt o ≡ true → o ≡ Less
is_less o h = grind (arith, common_steps)

module _ {K : Type 0} (cmp : K → K → Ordering) where
  -- each key is below every later one
  abbrev pub Rises : List K → Type 0
  Rises xs = (i j : ℕ) (d : K) → i < j → j < length xs → cmp (get_or xs i d) (get_or xs j d) ≡ Less

  -- x is below each of ys
  abbrev pub BelowEach : K → List K → Type 0
  BelowEach x ys = (j : ℕ) (d : K) → j < length ys → cmp x (get_or ys j d) ≡ Less

  pub below_each_cons : (x y : K) (ys : List K) → cmp x y ≡ Less → BelowEach x ys → BelowEach x (y ∷ ys)
  below_each_cons x y ys e o zero d h = e
  below_each_cons x y ys e o (suc j) d h = o j d (omega arith)

  pub below_each_tail : (x y : K) (ys : List K) → BelowEach x (y ∷ ys) → BelowEach x ys
  below_each_tail x y ys o j d h = o (suc j) d (omega arith)

  pub rises_cons : (x : K) (xs : List K) → BelowEach x xs → Rises xs → Rises (x ∷ xs)
  rises_cons x xs o up i zero d l h = absurd (omega arith)
  rises_cons x xs o up zero (suc j) d l h = o j d (omega arith)
  rises_cons x xs o up (suc i) (suc j) d l h = up i j d (omega arith) (omega arith)

  pub below_each_head : (x : K) (xs : List K) → Rises (x ∷ xs) → BelowEach x xs
  below_each_head x xs up j d h = up 0 (suc j) d (omega arith) (omega arith)

  pub rises_tail : (x : K) (xs : List K) → Rises (x ∷ xs) → Rises xs
  rises_tail x xs up i j d l h = up (suc i) (suc j) d (omega arith) (omega arith)

  -- x is above each of ys
  abbrev pub AboveEach : List K → K → Type 0
  AboveEach ys x = (j : ℕ) (d : K) → j < length ys → cmp (get_or ys j d) x ≡ Less

  pub above_each_last : (ys : List K) (x : K) (zs : List K) → Rises (ys ++ x ∷ zs) → AboveEach ys x
  above_each_last ys x zs up j d h =
      ap (λ (y : K). cmp y x) (sym (get_or_append_left ys (x ∷ zs) d j h)) ∙ ap (cmp (get_or (ys ++ x ∷ zs) j d)) (sym (get_or_at ys x zs d (length ys) refl)) ∙ up j (length ys) d h (omega (arith, length-append ys (x ∷ zs)))

  pub place_within : (xs : List K) (k : K) → place cmp xs k ≤ length xs
  place_within [] k = omega arith
  place_within (x ∷ xs) k =
      let rest = place_within xs k in
      grind (arith, common_steps)

  pub stands_within : (xs : List K) (k : K) → stands cmp xs k ≡ true → place cmp xs k < length xs
  stands_within [] k h = absurd (false≢true h)
  stands_within (x ∷ xs) k h =
      let rest = stands_within xs k in
      grind (arith, common_steps)

  -- at a key above k
  pub above_place : (xs : List K) (k : K) (m : ℕ) (d : K) → Rises xs → m < length xs → cmp (get_or xs m d) k ≡ Greater → (place cmp xs k ≤ m) × (stands cmp xs k ≡ true → place cmp xs k < m)
  above_place [] k m d up h e = absurd (omega arith)
  above_place (x ∷ xs) k zero d up h e = (rw e (omega arith), rw e (λ f. absurd (false≢true f)))
  above_place (x ∷ xs) k (suc m) d up h e =
      let rest = above_place xs k m d (rises_tail x xs up) (omega arith) e in
      grind (arith, common_steps)

  pub rising_from_rises : (xs : List K) → Rises xs → rising cmp xs ≡ true
  rising_from_rises [] up = refl
  rising_from_rises (x ∷ []) up = refl
  rising_from_rises (x ∷ (y ∷ ys)) up =
      let e : cmp x y ≡ Less = up 0 1 x (omega arith) (omega arith) in
      rw e (rising_from_rises (y ∷ ys) (rises_tail x (y ∷ ys) up))

  module _ (order : Order cmp) where
    pub rises_from_rising : (xs : List K) → rising cmp xs ≡ true → Rises xs
    rises_from_rising [] h = λ i j d l f. absurd (omega arith)
    rises_from_rising (x ∷ []) h = λ i j d l f. absurd (omega arith)
    rises_from_rising (x ∷ (y ∷ ys)) h =
        let b = and_parts (is_lt (cmp x y)) (rising cmp (y ∷ ys)) h in
        let e = is_less (cmp x y) b.0 in
        let up = rises_from_rising (y ∷ ys) b.1 in
        rises_cons x (y ∷ ys) (below_each_cons x y ys e (λ j d f. order.carries x y (get_or ys j d) e (below_each_head y ys up j d f))) up

    -- at a key below k
    pub below_place : (xs : List K) (k : K) (m : ℕ) (d : K) → Rises xs → m < length xs → cmp (get_or xs m d) k ≡ Less → m < place cmp xs k
    below_place [] k m d up h e = absurd (omega arith)
    below_place (x ∷ xs) k zero d up h e = rw e (omega arith)
    below_place (x ∷ xs) k (suc m) d up h e =
        let rest = below_place xs k m d (rises_tail x xs up) (omega arith) e in
        let first : cmp x k ≡ Less = order.carries x (get_or xs m d) k (up 0 (suc m) d (omega arith) h) e in
        rw first (omega arith)

    -- at k itself
    pub at_place : (xs : List K) (k : K) (m : ℕ) (d : K) → Rises xs → m < length xs → cmp (get_or xs m d) k ≡ Equal → (place cmp xs k ≡ m) × (stands cmp xs k ≡ true)
    at_place [] k m d up h e = absurd (omega arith)
    at_place (x ∷ xs) k zero d up h e = (rw e refl, rw e refl)
    at_place (x ∷ xs) k (suc m) d up h e =
        let rest = at_place xs k m d (rises_tail x xs up) (omega arith) e in
        let first : cmp x k ≡ Less = subst (λ (y : K). cmp x y ≡ Less) (order.same _ _ e) (up 0 (suc m) d (omega arith) h) in
        (rw first (ap suc rest.0), rw first rest.1)
