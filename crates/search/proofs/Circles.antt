-- A count over a range; and a model stands in a circle exactly if another one, taken from it, leads back.
use Rattle.std.proofs.Common.{◌≡◌, ℕ, ◌+◌, ◌<◌, Bool, true, false, not, ◌&&◌, eqb, List, [], ◌∷◌, length, get_or, sym, refl, ap, ◌∙◌, inl, inr, zero-add}
use Rattle.std.specs.List.{count_by, list_any, range_with_len}
use Rattle.std.proofs.lemmas.List.Sums.{length-filter}
use Rattle.std.proofs.lemmas.Bool.{and_parts, and_from, not-true, not_from_false, cases_eq, eqb-false, ne_eqb, or_cases, or_left, or_right, eqb-true, eq-eqb, false≢true, both_ways}
use Rattle.lineage.specs.Finite.{count, Chain, none, step}
use Rattle.lineage.proofs.Kept.{kept_counting}
use Rattle.lineage.proofs.Numbers.{bit, total_same, count_more, any_hit, any_some, same_tests, refuted}
use Rattle.lineage.proofs.Reach.{chain_trans}
use Rattle.search.specs.declared.successors.Successors.{Successors}
use Rattle.search.specs.Following.{taken, lists, follows, reaches, returned}
use Rattle.search.proofs.Taken.{follows_within, follows_lists, follows_taken}
use Rattle.search.proofs.Reached.{reaches_chain}

pub counted : (n : ℕ) (p : ℕ → Bool) → count_by p (range_with_len 0 n) ≡ count n p
counted n p = sym (length-filter p (range_with_len 0 n)) ∙ kept_counting p n 0 ∙ total_same n (λ k. bit (p (0 + k))) (λ k. bit (p k)) (λ k l. ap (λ k. bit (p k)) (zero-add k))

pub count_step : (i many more : ℕ) (p : ℕ → Bool) (b : Bool) → many ≡ count i p → p i ≡ b → more ≡ many + bit b → more ≡ count (i + 1) p
count_step i many more p b e f g = g ∙ ap (λ (k : ℕ). k + bit b) e ∙ ap (λ (t : Bool). count i p + bit t) (sym f) ∙ sym (count_more i p)

-- a chain from u to another model has a step from u to another model
first_other : (R : ℕ → ℕ → Bool) {u v : ℕ} → (u ≡ v → ⊥) → Chain R u v → (w : ℕ) × (R u w ≡ true) × (u ≡ w → ⊥) × Chain R w v
first_other R n none = absurd (n refl)
first_other R {u} {v} n (step {w = w} e c) =
    elim (cases_eq u w) [
      | inl f ↦ (let r = first_other R {u = w} {v = v} (λ g. n (f ∙ g)) c in (r.0, ap (λ (x : ℕ). R x r.0) f ∙ r.1, (λ g. r.2 (sym f ∙ g)), r.3))
      | inr f ↦ (w, e, f, c)
    ]

-- a list has an element that passes a test
any_listed : (p : ℕ → Bool) (xs : List ℕ) → list_any p xs ≡ true → (v : ℕ) × (lists xs v ≡ true) × (p v ≡ true)
any_listed p [] e = absurd (false≢true e)
any_listed p (x ∷ xs) e = elim (or_cases (p x) (list_any p xs) e) [
  | inl h ↦ (x, or_left (eqb x x) (lists xs x) (eq-eqb x x refl), h)
  | inr h ↦ let r = any_listed p xs h in (r.0, or_right (eqb x r.0) (lists xs r.0) r.1, r.2)
]

listed_any : (p : ℕ → Bool) (xs : List ℕ) (v : ℕ) → lists xs v ≡ true → p v ≡ true → list_any p xs ≡ true
listed_any p [] v e f = absurd (false≢true e)
listed_any p (x ∷ xs) v e f = elim (or_cases (eqb x v) (lists xs v) e) [
  | inl h ↦ or_left (p x) (list_any p xs) (ap p (eqb-true x v h) ∙ f)
  | inr h ↦ or_right (p x) (list_any p xs) (listed_any p xs v h f)
]

module _ (s : Successors) (u : ℕ) where
  -- what a target of u has to pass: it is another model and leads back
  abbrev pub back : ℕ → Bool
  back v = not (eqb u v) && reaches s v u

  pub circle_from : (v : ℕ) → follows s u v ≡ true → back v ≡ true → returned s.models (reaches s) u ≡ true
  circle_from v e b =
      let w = follows_within s u v e in
      let p = and_parts (not (eqb u v)) (reaches s v u) b in
      any_hit s.models (λ x. not (eqb u x) && (reaches s u x && reaches s x u)) v w.1 (and_from (not (eqb u v)) (reaches s u v && reaches s v u) p.0 (and_from (reaches s u v) (reaches s v u) ((reaches_chain s u v).1 (w.0, step e none)) p.1))

  circle_target : returned s.models (reaches s) u ≡ true → (w : ℕ) × (follows s u w ≡ true) × (back w ≡ true)
  circle_target c =
      let a = any_some s.models (λ x. not (eqb u x) && (reaches s u x && reaches s x u)) c in
      let v : ℕ = a.0 in
      let p = and_parts (not (eqb u v)) (reaches s u v && reaches s v u) a.2 in
      let q = and_parts (reaches s u v) (reaches s v u) p.1 in
      let there = (reaches_chain s u v).0 q.0 in
      let home = (reaches_chain s v u).0 q.1 in
      let f = first_other (follows s) (eqb-false u v (not-true (eqb u v) p.0)) there.1 in
      let w : ℕ = f.0 in
      let passes : back w ≡ true = and_from (not (eqb u w)) (reaches s w u) (not_from_false (eqb u w) (ne_eqb u w f.2)) ((reaches_chain s w u).1 ((follows_within s u w f.1).1, chain_trans (follows s) f.3 home.1)) in
      (w, f.1, passes)

  pub circle_any : list_any back (taken s u) ≡ returned s.models (reaches s) u
  circle_any = same_tests (list_any back (taken s u)) (returned s.models (reaches s) u)
      (λ e. let r = any_listed back (taken s u) e in circle_from r.0 (follows_lists s u r.0 ∙ r.1) r.2)
      (λ c. let r = circle_target c in listed_any back (taken s u) r.0 (sym (follows_lists s u r.0) ∙ r.1) r.2)

  pub no_circle : ((k : ℕ) → k < length (taken s u) → back (get_or (taken s u) k 0) ≡ false) → returned s.models (reaches s) u ≡ false
  no_circle h = refuted (returned s.models (reaches s) u) (λ c.
      let t = circle_target c in
      let f = follows_taken s u t.0 t.1 in
      both_ways (back (get_or (taken s u) f.0 0)) (h f.0 f.1) (ap back f.2 ∙ t.2))
