-- A book has no more arcs than derivations, and its surplus is below the number of derivations. Assumes nothing.
use Rattle.std.proofs.Common.{◌≡◌, ℕ, ◌+◌, ◌-◌, ◌<◌, ◌≤◌, Bool, true, false, ◌&&◌, ◌||◌, eqb, List, [], ◌∷◌, length, refl, ap, subst, inl, inr, arith}
use Rattle.std.proofs.lemmas.Bool.{false≢true, cases_lt, eqb-true, eq-eqb, and_from, and_parts, or_cases, or_left, or_right}
use Rattle.lineage.specs.Finite.{any, total, count, Within}
use Rattle.lineage.specs.Lists.{◌∈◌}
use Rattle.lineage.specs.Book.{among, group, arc, surplus}
use Rattle.lineage.specs.Theorems.{SurplusIsBelow}
use Rattle.lineage.proofs.Numbers.{any_hit, total_le, total_add, total_none, total_some, bit, bit_le, bit_or, bit_true, count_has, count_at_most_one}
use Rattle.lineage.proofs.Groups.{arc_sound}

-- whether a derivation of the list goes from the group a to the group b
abbrev goes : (ℕ → ℕ) → ℕ × ℕ → ℕ → ℕ → Bool
goes f d a b = eqb (f d.0) a && eqb (f d.1) b

abbrev some_goes : (ℕ → ℕ) → List (ℕ × ℕ) → ℕ → ℕ → Bool
some_goes f [] a b = false
some_goes f (d ∷ ds) a b = goes f d a b || some_goes f ds a b

one_goes : (n : ℕ) (f : ℕ → ℕ) (d : ℕ × ℕ) → total n (λ a. count n (goes f d a)) ≤ 1
one_goes n f d = omega (arith, count_at_most_one n (f d.0), total_le n (λ a. count n (goes f d a)) (λ a. bit (eqb (f d.0) a)) (λ a l. row a (eqb (f d.0) a)))
  where
    row : (a : ℕ) (t : Bool) → count n (λ b. t && eqb (f d.1) b) ≤ bit t
    row a true = count_at_most_one n (f d.1)
    row a false = omega (arith, total_none n (λ b. 0) (λ b l. refl))

few_go : (n : ℕ) (f : ℕ → ℕ) (ds : List (ℕ × ℕ)) → total n (λ a. count n (some_goes f ds a)) ≤ length ds
few_go n f [] = omega (arith, total_none n (λ a. count n (some_goes f [] a)) (λ a l. total_none n (λ b. 0) (λ b m. refl)))
few_go n f (d ∷ ds) = omega (
  arith,
  few_go n f ds,
  one_goes n f d,
  total_add n (λ a. count n (goes f d a)) (λ a. count n (some_goes f ds a)),
  total_le n (λ a. count n (some_goes f (d ∷ ds) a)) (λ a. count n (goes f d a) + count n (some_goes f ds a)) (λ a l. omega (
    arith,
    total_add n (λ b. bit (goes f d a b)) (λ b. bit (some_goes f ds a b)),
    total_le n (λ b. bit (some_goes f (d ∷ ds) a b)) (λ b. bit (goes f d a b) + bit (some_goes f ds a b))
        (λ b m. bit_or (some_goes f (d ∷ ds) a b) (goes f d a b) (some_goes f ds a b) (or_cases (goes f d a b) (some_goes f ds a b))),
  )),
)

goes_in : (f : ℕ → ℕ) (ds : List (ℕ × ℕ)) (u v : ℕ) → (u, v) ∈ ds → some_goes f ds (f u) (f v) ≡ true
goes_in f [] u v h = absurd h
goes_in f (d ∷ ds) u v (inl e) = or_left (goes f d (f u) (f v)) (some_goes f ds (f u) (f v))
    (and_from (eqb (f d.0) (f u)) (eqb (f d.1) (f v))
    (eq-eqb (f d.0) (f u) (ap (λ (x : ℕ × ℕ). f x.0) e)) (eq-eqb (f d.1) (f v) (ap (λ (x : ℕ × ℕ). f x.1) e)))
goes_in f (d ∷ ds) u v (inr h) = or_right (goes f d (f u) (f v)) (some_goes f ds (f u) (f v)) (goes_in f ds u v h)

-- for a book whose derivations all stand in a list
module _ (n : ℕ) (R : ℕ → ℕ → Bool) (within : Within n R) (ds : List (ℕ × ℕ)) (all : (u v : ℕ) → R u v ≡ true → (u, v) ∈ ds) where
  pub arcs_few : total n (λ a. count n (arc n R a)) ≤ length ds
  arcs_few = omega (
    arith,
    few_go n (group n R) ds,
    total_le n (λ a. count n (arc n R a)) (λ a. count n (some_goes (group n R) ds a)) (λ a l.
        total_le n (λ b. bit (arc n R a b)) (λ b. bit (some_goes (group n R) ds a b)) (λ b m.
        bit_le (arc n R a b) (some_goes (group n R) ds a b) (λ e. arc_goes a b e))),
  )
    where
      arc_goes : (a b : ℕ) → arc n R a b ≡ true → some_goes (group n R) ds a b ≡ true
      arc_goes a b e =
          let s = arc_sound n R within a b e in
          subst (λ (x : ℕ). some_goes (group n R) ds x b ≡ true) s.3.3
          (subst (λ (y : ℕ). some_goes (group n R) ds (group n R s.3.0) y ≡ true) s.3.4
          (goes_in (group n R) ds s.3.0 s.3.1 (all s.3.0 s.3.1 s.3.2)))

  -- an arc comes in somewhere, so one at least is no surplus
  pub surplus_few : 0 < length ds → surplus n R < length ds
  unfolding surplus
  surplus_few pos =
      let arcs : ℕ = total n (λ a. count n (arc n R a)) in
      let into : ℕ = count n (λ b. any n (λ a. arc n R a b)) in
      let few : arcs ≤ length ds = arcs_few in
      elim (cases_lt 0 arcs) [
        | inl h ↦
            let x = total_some n (λ a. 0) (λ a. count n (arc n R a)) (omega (arith, total_none n (λ a. 0) (λ a l. refl))) in
            let z : 0 < count n (arc n R x.0) = x.2 in
            let y = total_some n (λ b. 0) (λ b. bit (arc n R x.0 b)) (omega (arith, total_none n (λ a. 0) (λ a l. refl))) in
            let has : arc n R x.0 y.0 ≡ true = bit_true (arc n R x.0 y.0) y.2 in
            let some : 0 < into = count_has n (λ b. any n (λ a. arc n R a b)) y.0 y.1 (any_hit n (λ a. arc n R a y.0) x.0 x.1 has) in
            let goal : arcs - into < length ds = omega arith in goal
        | inr h ↦ let goal : arcs - into < length ds = omega arith in goal
      ]

  surplus_arcs : surplus n R ≤ total n (λ a. count n (arc n R a))
  unfolding surplus
  surplus_arcs = omega arith

  pub surplus_below : (c : ℕ) → 0 < c → length ds ≤ c → surplus n R < c
  surplus_below c pos h = elim (cases_lt 0 (length ds)) [
    | inl l ↦ omega (arith, surplus_few l)
    | inr l ↦ omega (arith, arcs_few, surplus_arcs)
  ]

pub among_in : (ds : List (ℕ × ℕ)) (u v : ℕ) → among ds u v ≡ true → (u, v) ∈ ds
among_in [] u v e = false≢true e
among_in (d ∷ ds) u v e = elim (or_cases (eqb d.0 u && eqb d.1 v) (among ds u v) e) [
  | inl h ↦ let p = and_parts (eqb d.0 u) (eqb d.1 v) h in inl (λ i. (eqb-true d.0 u p.0 i, eqb-true d.1 v p.1 i))
  | inr h ↦ inr (among_in ds u v h)
]

pub surplus_is_below : (n : ℕ) (ds : List (ℕ × ℕ)) → Within n (among ds) → SurplusIsBelow n ds
surplus_is_below n ds within = record {
  below_count = surplus_few n (among ds) within ds (among_in ds);
  below_2048 = surplus_below n (among ds) within ds (among_in ds) 2048 (omega arith);
}
