-- Ranks: how many numbers below a number pass a test, which is the place of that number among those that pass; sums over such places. Assumes nothing.
use Rattle.std.proofs.Common.{◌≡◌, ℕ, zero, suc, ◌+◌, ◌<◌, ◌≤◌, Bool, true, false, cond, eqb, ltb, leb, List, [], ◌∷◌, ◌++◌, length, get_or, Some, None, filter, Option, sym, refl, ap, ◌∙◌, subst, inl, inr, arith}
use Rattle.std.specs.List.{range_with_len}
use Rattle.std.proofs.lemmas.List.Elements.{filter-append}
use Rattle.std.proofs.lemmas.List.{length-append, get_or_append_left, get_or_at}
use Rattle.std.proofs.lemmas.Bool.{cases_lt, cases_eq, cases_Bool, true≢false, eq-eqb, ne_eqb, cond-true, cond-false, le-leb, lt-leb, lt-ltb, le-ltb}
use Rattle.lineage.specs.Finite.{any, total, count, those}
use Rattle.lineage.specs.Lists.{place}
use Rattle.lineage.proofs.Numbers.{total_same, total_none, total_swap}
use Rattle.lineage.proofs.Places.{Placed, place_is}

-- counts grow
pub count_mono : (p : ℕ → Bool) (j k : ℕ) → j ≤ k → count j p ≤ count k p
count_mono p j zero h = let e : j ≡ 0 = omega arith in rw e (omega arith)
count_mono p j (suc k) h = elim (cases_lt j (suc k)) [
  | inl l ↦ omega (arith, count_mono p j k (omega arith))
  | inr l ↦ let e : j ≡ suc k = omega arith in subst (λ (x : ℕ). count x p ≤ count (suc k) p) (sym e) (omega arith)
]

pub count_next : (p : ℕ → Bool) (j : ℕ) → p j ≡ true → count (suc j) p ≡ count j p + 1
count_next p j e = ap (λ b. count j p + cond b 1 0) e

pub count_stay : (p : ℕ → Bool) (j : ℕ) → p j ≡ false → count (suc j) p ≡ count j p
count_stay p j e = let h : count (suc j) p ≡ count j p + 0 = ap (λ b. count j p + cond b 1 0) e in omega arith

pub count_lt : (p : ℕ → Bool) (j k : ℕ) → j < k → p j ≡ true → count j p < count k p
count_lt p j k h e = omega (arith, count_next p j e, count_mono p (suc j) k (omega arith))

pub count_inj : (p : ℕ → Bool) (i j : ℕ) → p i ≡ true → p j ≡ true → count i p ≡ count j p → i ≡ j
count_inj p i j a b e = elim (cases_lt i j) [
  | inl l ↦ absurd (omega (arith, count_lt p i j l a))
  | inr l ↦ elim (cases_lt j i) [
    | inl m ↦ absurd (omega (arith, count_lt p j i m b))
    | inr m ↦ omega arith
  ]
]

pub count_onto : (p : ℕ → Bool) (n m : ℕ) → m < count n p → (i : ℕ) × (i < n) × (p i ≡ true) × (count i p ≡ m)
count_onto p zero m h = absurd (omega arith)
count_onto p (suc n) m h = elim (cases_lt m (count n p)) [
  | inl l ↦ let r = count_onto p n m l in let q : r.0 < n = r.1 in (r.0, omega arith, r.2, r.3)
  | inr l ↦ elim (cases_Bool (p n)) [
    | inl e ↦ (n, omega arith, e, omega (arith, count_next p n e))
    | inr e ↦ absurd (omega (arith, count_stay p n e))
  ]
]

-- searches by tests that agree
pub any_same : (n : ℕ) (p q : ℕ → Bool) → ((k : ℕ) → k < n → p k ≡ q k) → any n p ≡ any n q
any_same zero p q h = refl
any_same (suc n) p q h = let a = h n (omega arith) in let b = any_same n p q (λ k l. h k (omega arith)) in cc

-- a sum with one term
pub total_single : (n k : ℕ) (f : ℕ → ℕ) → k < n → ((j : ℕ) → j < n → (j ≡ k → ⊥) → f j ≡ 0) → total n f ≡ f k
total_single zero k f l h = absurd (omega arith)
total_single (suc n) k f l h = elim (cases_eq n k) [
  | inl e ↦ omega (arith, total_none n f (λ j m. h j (omega arith) (omega arith)), ap f e)
  | inr e ↦ omega (arith, total_single n k f (omega arith) (λ j m. h j (omega arith)), h n (omega arith) e)
]

-- a sum over numbers is a sum over places, where the places have every number that counts, once
pub record Places (n t : ℕ) (f : ℕ → ℕ) (h : ℕ → ℕ) : Type 0 where
  pub below : (k : ℕ) → k < t → f k < n
  pub once : (j k : ℕ) → j < t → k < t → f j ≡ f k → j ≡ k
  pub all : (a : ℕ) → a < n → 0 < h a → (k : ℕ) × (k < t) × (f k ≡ a)

pub reindex : (n t : ℕ) (f h : ℕ → ℕ) → Places n t f h → total n h ≡ total t (λ k. h (f k))
reindex n t f h P =
    total_same n h (λ a. total t (λ k. cond (eqb (f k) a) (h a) 0)) (λ a l. spread a l)
    ∙ (total_swap n t (λ a k. cond (eqb (f k) a) (h a) 0)
    ∙ total_same t (λ k. total n (λ a. cond (eqb (f k) a) (h a) 0)) (λ k. h (f k)) (λ k l. gather k l))
  where
    hit : (k a : ℕ) → f k ≡ a → cond (eqb (f k) a) (h a) 0 ≡ h a
    hit k a e = cond-true (eqb (f k) a) (h a) 0 (eq-eqb (f k) a e)

    miss : (k a : ℕ) → (f k ≡ a → ⊥) → cond (eqb (f k) a) (h a) 0 ≡ 0
    miss k a e = cond-false (eqb (f k) a) (h a) 0 (ne_eqb (f k) a e)

    zeros : (k a : ℕ) → h a ≡ 0 → cond (eqb (f k) a) (h a) 0 ≡ 0
    zeros k a e = elim (cases_eq (f k) a) [ inl s ↦ hit k a s ∙ e | inr s ↦ miss k a s ]

    spread : (a : ℕ) → a < n → h a ≡ total t (λ k. cond (eqb (f k) a) (h a) 0)
    spread a l = elim (cases_lt 0 (h a)) [
      | inl m ↦
          let r = P.all a l m in
          let k = r.0 in
          let i : k < t = r.1 in
          sym (total_single t k (λ k. cond (eqb (f k) a) (h a) 0) i
          (λ j q ne. miss j a (λ e. ne (P.once j k q i (e ∙ sym r.2))))
          ∙ hit k a r.2)
      | inr m ↦
          let z : h a ≡ 0 = omega arith in
          z ∙ sym (total_none t (λ k. cond (eqb (f k) a) (h a) 0) (λ k q. zeros k a z))
    ]

    gather : (k : ℕ) → k < t → total n (λ a. cond (eqb (f k) a) (h a) 0) ≡ h (f k)
    gather k l =
        total_single n (f k) (λ a. cond (eqb (f k) a) (h a) 0) (P.below k l) (λ a m ne. miss k a (λ e. ne (sym e)))
        ∙ hit k (f k) refl

-- a sum from p on
pub total_from : (f : ℕ → ℕ) (s p : ℕ) → p ≤ s → total s (λ k. cond (leb p k) (f k) 0) + total p f ≡ total s f
total_from f zero p h = let e : p ≡ 0 = omega arith in rw e refl
total_from f (suc s) p h = elim (cases_lt p (suc s)) [
  | inl l ↦ omega (arith, total_from f s p (omega arith), cond-true (leb p s) (f s) 0 (le-leb p s (omega arith)))
  | inr l ↦
      let e : p ≡ suc s = omega arith in
      let z : total (suc s) (λ k. cond (leb p k) (f k) 0) ≡ 0 = total_none (suc s) (λ k. cond (leb p k) (f k) 0) (λ k m. cond-false (leb p k) (f k) 0 (lt-leb p k (omega arith))) in
      omega (arith, ap (λ x. total x f) e)
]

-- the list of those that pass
counting_more : (a m : ℕ) → range_with_len a (suc m) ≡ range_with_len a m ++ (a + m) ∷ []
counting_more a zero = let e : a ≡ a + 0 = omega arith in ap (λ x. x ∷ []) e
counting_more a (suc m) = let e : (a + 1) + m ≡ a + suc m = omega arith in
    ap (λ l. a ∷ l) (counting_more (a + 1) m ∙ ap (λ x. range_with_len (a + 1) m ++ x ∷ []) e)

those_more : (p : ℕ → Bool) (n : ℕ) → those (suc n) p ≡ those n p ++ cond (p n) (n ∷ []) []
those_more p n =
    let e : 0 + n ≡ n = omega arith in
    ap (filter p) (counting_more 0 n ∙ ap (λ x. range_with_len 0 n ++ x ∷ []) e) ∙ filter-append p (range_with_len 0 n) (n ∷ [])

length_one : (b : Bool) (n : ℕ) → length (cond b (n ∷ []) []) ≡ cond b 1 0
length_one true n = refl
length_one false n = refl

pub length_those : (p : ℕ → Bool) (n : ℕ) → length (those n p) ≡ count n p
length_those p zero = refl
length_those p (suc n) = ap length (those_more p n) ∙ (length-append (those n p) (cond (p n) (n ∷ []) []) ∙ omega (arith, length_those p n, length_one (p n) n))

pub get_d_those : (p : ℕ → Bool) (n i : ℕ) → i < n → p i ≡ true → get_or (those n p) (count i p) 0 ≡ i
get_d_those p zero i l e = absurd (omega arith)
get_d_those p (suc n) i l e = elim (cases_eq i n) [
  | inl q ↦ subst (λ (x : ℕ). get_or (those (suc n) p) (count x p) 0 ≡ x) (sym q)
      (ap (λ z. get_or z (count n p) 0) (those_more p n ∙ ap (λ b. those n p ++ cond b (n ∷ []) []) (ap p (sym q) ∙ e))
      ∙ get_or_at (those n p) n [] 0 (count n p) (length_those p n))
  | inr q ↦
      ap (λ z. get_or z (count i p) 0) (those_more p n)
      ∙ (get_or_append_left (those n p) (cond (p n) (n ∷ []) []) 0 (count i p) (omega (arith, length_those p n, count_lt p i n (omega arith) e))
      ∙ get_d_those p n i (omega arith) e)
]

-- the element at a place
pub record Ranked (p : ℕ → Bool) (n k i : ℕ) : Type 0 where
  pub low : i < n
  pub passes : p i ≡ true
  pub placed : count i p ≡ k

pub those_at : (p : ℕ → Bool) (n k : ℕ) → k < count n p → Ranked p n k (get_or (those n p) k 0)
those_at p n k l =
    let r = count_onto p n k l in
    let e : get_or (those n p) k 0 ≡ r.0 = ap (λ x. get_or (those n p) x 0) (sym r.3) ∙ get_d_those p n r.0 r.1 r.2 in
    subst (λ (x : ℕ). Ranked p n k x) (sym e) (record { low = r.1; passes = r.2; placed = r.3 })

pub those_same : (n : ℕ) (p q : ℕ → Bool) → ((k : ℕ) → k < n → p k ≡ q k) → those n p ≡ those n q
those_same zero p q h = refl
those_same (suc n) p q h =
    those_more p n ∙ (ap (λ l. l ++ cond (p n) (n ∷ []) []) (those_same n p q (λ k l. h k (omega arith)))
    ∙ (ap (λ b. those n q ++ cond b (n ∷ []) []) (h n (omega arith)) ∙ sym (those_more q n)))

-- there is one place
placed_one : (p : ℕ → Bool) (xs : List ℕ) (o r : Option ℕ) → Placed p xs o → Placed p xs r → o ≡ r
placed_one p xs None None a b = refl
placed_one p xs None (Some j) a b = absurd (true≢false (sym b.1 ∙ a j b.0))
placed_one p xs (Some i) None a b = absurd (true≢false (sym a.1 ∙ b i a.0))
placed_one p xs (Some i) (Some j) a b = elim (cases_lt i j) [
  | inl l ↦ absurd (true≢false (sym a.1 ∙ b.2 i l))
  | inr l ↦ elim (cases_lt j i) [
    | inl m ↦ absurd (true≢false (sym b.1 ∙ a.2 j m))
    | inr m ↦ let e : i ≡ j = omega arith in ap (λ x. Some x) e
  ]
]

low_side : (p : ℕ → Bool) (n x k : ℕ) → k < count n p → k < count x p → get_or (those n p) k 0 < x
low_side p n x k l m = let a = those_at p n k l in elim (cases_lt (get_or (those n p) k 0) x) [
  | inl h ↦ h
  | inr h ↦ let e = a.placed in absurd (omega (arith, count_mono p x (get_or (those n p) k 0) h))
]

high_side : (p : ℕ → Bool) (n x k : ℕ) → k < count n p → count x p ≤ k → x ≤ get_or (those n p) k 0
high_side p n x k l m = let a = those_at p n k l in elim (cases_lt (get_or (those n p) k 0) x) [
  | inl h ↦ let e = a.placed in absurd (omega (arith, count_lt p (get_or (those n p) k 0) x h a.passes))
  | inr h ↦ h
]

-- the place of the least that passes and is x or more is the rank of x
pub place_by_rank : (p : ℕ → Bool) (n x : ℕ) → place (leb x) (those n p) ≡ cond (ltb (count x p) (count n p)) (Some (count x p)) None
place_by_rank p n x = elim (cases_lt (count x p) (count n p)) [
  | inl l ↦ placed_one (leb x) (those n p) (place (leb x) (those n p)) (Some (count x p)) (place_is (leb x) (those n p)) (
    omega (arith, length_those p n),
    le-leb x (get_or (those n p) (count x p) 0) (high_side p n x (count x p) l (omega arith)),
    λ k m. lt-leb x (get_or (those n p) k 0) (low_side p n x k (omega arith) m),
  ) ∙ sym (cond-true (ltb (count x p) (count n p)) (Some (count x p)) None (lt-ltb (count x p) (count n p) l))
  | inr l ↦ placed_one (leb x) (those n p) (place (leb x) (those n p)) None (place_is (leb x) (those n p))
      (λ k m. let h : k < count n p = omega (arith, length_those p n) in lt-leb x (get_or (those n p) k 0) (low_side p n x k h (omega arith)))
      ∙ sym (cond-false (ltb (count x p) (count n p)) (Some (count x p)) None (le-ltb (count x p) (count n p) l))
]

-- the place of a number that passes is its rank
pub place_of_passing : (p : ℕ → Bool) (n w : ℕ) → w < n → p w ≡ true → place (eqb w) (those n p) ≡ Some (count w p)
place_of_passing p n w l e = placed_one (eqb w) (those n p) (place (eqb w) (those n p)) (Some (count w p)) (place_is (eqb w) (those n p)) (
  omega (arith, length_those p n, count_lt p w n l e),
  eq-eqb w (get_or (those n p) (count w p) 0) (sym (get_d_those p n w l e)),
  λ k m.
      let h : k < count n p = omega (arith, count_lt p w n l e) in
      ne_eqb w (get_or (those n p) k 0) (λ q. let y = low_side p n w k h m in omega arith),
)
