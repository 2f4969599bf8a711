-- Places in rising lists of numbers: the first that passes a test, the least from a number on, the one of an element. Assumes nothing.
use Rattle.std.proofs.Common.{◌≡◌, ℕ, zero, suc, ◌<◌, ◌≤◌, Bool, true, false, cond, eqb, ltb, leb, ◌↔◌, List, [], ◌∷◌, length, get_or, Some, None, Option, sym, refl, ap, ◌∙◌, subst, inl, inr, arith}
use Rattle.std.proofs.lemmas.Bool.{cases_lt, leb-true, leb-false, ltb-true, eqb-true, eqb-false}
use Rattle.lineage.specs.Lists.{◌∈◌, place, next}
use Rattle.lineage.specs.Theorems.{LeastFrom, NoneFrom}
use Rattle.lineage.proofs.Rising.{at_in, Rises, rises_at, rises_once, strict_ltb}

pub none_some : {p : ℕ} → None ≡ Some p → ⊥
none_some {p} e = let z : ◌≡◌ {A = ℕ} 0 1 = cc in omega arith

pub some_same : {p q : ℕ} → Some p ≡ Some q → p ≡ q
some_same {p} {q} e = cc

-- what a place is: the first element that passes
abbrev pub Placed : (ℕ → Bool) → List ℕ → Option ℕ → Type 0
Placed test xs None = (k : ℕ) → k < length xs → test (get_or xs k 0) ≡ false
Placed test xs (Some p) = (p < length xs) × (test (get_or xs p 0) ≡ true) × ((k : ℕ) → k < p → test (get_or xs k 0) ≡ false)

placed_more : (test : ℕ → Bool) (x : ℕ) (xs : List ℕ) (b : Bool) (o : Option ℕ) → test x ≡ b → Placed test xs o → Placed test (x ∷ xs) (cond b (Some 0) (next o))
placed_more test x xs true o e h = (omega arith, e, λ k l. absurd (omega arith))
placed_more test x xs false None e h = go
  where
    go : (k : ℕ) → k < length (x ∷ xs) → test (get_or (x ∷ xs) k 0) ≡ false
    go zero l = e
    go (suc k) l = h k (omega arith)
placed_more test x xs false (Some p) e h = (let l : p < length xs = h.0 in omega arith, h.1, go)
  where
    go : (k : ℕ) → k < suc p → test (get_or (x ∷ xs) k 0) ≡ false
    go zero l = e
    go (suc k) l = h.2 k (omega arith)

pub place_is : (test : ℕ → Bool) (xs : List ℕ) → Placed test xs (place test xs)
place_is test [] = λ k l. absurd (omega arith)
place_is test (x ∷ xs) = placed_more test x xs (test x) (place test xs) refl (place_is test xs)

-- in a rising list
module _ (xs : List ℕ) (rises : Rises ltb xs) where
  pub rises_lt : (p q : ℕ) → p < q → q < length xs → get_or xs p 0 < get_or xs q 0
  rises_lt p q h l = ltb-true (get_or xs p 0) (get_or xs q 0) (rises_at ltb strict_ltb xs 0 rises p q h l)

  pub rises_le : (p q : ℕ) → p ≤ q → q < length xs → get_or xs p 0 ≤ get_or xs q 0
  rises_le p q h l = elim (cases_lt p q) [
    | inl g ↦ omega (arith, rises_lt p q g l)
    | inr g ↦ let e : p ≡ q = omega arith in subst (λ k. get_or xs p 0 ≤ get_or xs k 0) e (omega arith)
  ]

  -- the least element from a on
  placed_least : (a p : ℕ) → Placed (leb a) xs (Some p) → LeastFrom xs a p
  placed_least a p h = record {
    stands = h.0;
    from = leb-true a (get_or xs p 0) h.1;
    least = λ q l k. elim (cases_lt q p) [
      | inl g ↦ absurd (omega (arith, leb-false a (get_or xs q 0) (h.2 q g)))
      | inr g ↦ rises_le p q g l
    ];
  }

  least_unique : (a p q : ℕ) → LeastFrom xs a p → LeastFrom xs a q → p ≡ q
  least_unique a p q s t = rises_once ltb strict_ltb xs 0 rises p q s.stands t.stands
      (omega (arith, s.least q t.stands t.from, t.least p s.stands s.from))

  some_least : (a p : ℕ) (o : Option ℕ) → Placed (leb a) xs o → (o ≡ Some p) ↔ LeastFrom xs a p
  some_least a p None h = (
    λ e. absurd (none_some e),
    λ l. absurd (let f = l.from in omega (arith, leb-false a (get_or xs p 0) (h p l.stands))),
  )
  some_least a p (Some q) h = (
    λ e. subst (LeastFrom xs a) (some_same e) (placed_least a q h),
    λ l. ap (λ i. Some i) (least_unique a q p (placed_least a q h) l),
  )

  none_least : (a : ℕ) (o : Option ℕ) → Placed (leb a) xs o → (o ≡ None) ↔ NoneFrom xs a
  none_least a None h = (λ e. λ q l. leb-false a (get_or xs q 0) (h q l), λ f. refl)
  none_least a (Some p) h = (
    λ e. absurd (none_some (sym e)),
    λ f. absurd (omega (arith, leb-true a (get_or xs p 0) h.1, f p h.0)),
  )

  pub place_least : (a p : ℕ) → (place (leb a) xs ≡ Some p) ↔ LeastFrom xs a p
  place_least a p = some_least a p (place (leb a) xs) (place_is (leb a) xs)

  pub place_none : (a : ℕ) → (place (leb a) xs ≡ None) ↔ NoneFrom xs a
  place_none a = none_least a (place (leb a) xs) (place_is (leb a) xs)

  -- the place of an element
  some_of : (s q : ℕ) (o : Option ℕ) → Placed (eqb s) xs o → (o ≡ Some q) ↔ ((q < length xs) × (get_or xs q 0 ≡ s))
  some_of s q None h = (λ e. absurd (none_some e), λ l. absurd (eqb-false s (get_or xs q 0) (h q l.0) (sym l.1)))
  some_of s q (Some p) h =
      let i : get_or xs p 0 ≡ s = sym (eqb-true s (get_or xs p 0) h.1) in (
        λ e. subst (λ k. (k < length xs) × (get_or xs k 0 ≡ s)) (some_same e) (h.0, i),
        λ l. ap (λ i. Some i) (rises_once ltb strict_ltb xs 0 rises p q h.0 l.0 (i ∙ sym l.1)),
      )

  none_of : (s : ℕ) (o : Option ℕ) → Placed (eqb s) xs o → o ≡ None → s ∈ xs → ⊥
  none_of s None h e i = let r = at_in xs s 0 i in eqb-false s (get_or xs r.0 0) (h r.0 r.1) (sym r.2)
  none_of s (Some p) h e i = none_some (sym e)

  pub place_of : (s q : ℕ) → (place (eqb s) xs ≡ Some q) ↔ ((q < length xs) × (get_or xs q 0 ≡ s))
  place_of s q = some_of s q (place (eqb s) xs) (place_is (eqb s) xs)

  pub place_stands : (s : ℕ) → s ∈ xs → place (eqb s) xs ≡ None → ⊥
  place_stands s i e = none_of s (place (eqb s) xs) (place_is (eqb s) xs) e i
