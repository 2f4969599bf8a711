-- The models that were taken from u, as a list and as a test.
use Rattle.std.proofs.Common.{◌≡◌, ℕ, zero, suc, ◌+◌, ◌-◌, ◌<◌, ◌≤◌, Bool, true, false, cond, eqb, List, [], ◌∷◌, length, get_or, drop, sym, refl, ap, ◌∙◌, subst, inl, inr, arith, length-drop, length-take, get_or-drop, get_or-take}
use Rattle.std.specs.List.{between}
use Rattle.std.proofs.lemmas.Bool.{le-ltb, lt-ltb, cases_lt, or_cases, or_left, or_right, eqb-true, eq-eqb, false≢true}
use Rattle.lineage.specs.Finite.{Within}
use Rattle.search.specs.declared.successors.Successors.{Successors}
use Rattle.search.specs.Following.{taken, lists, follows}

-- a list has v exactly if v stands at some place of it
pub lists_at : (xs : List ℕ) (k v : ℕ) → k < length xs → get_or xs k 0 ≡ v → lists xs v ≡ true
lists_at [] k v l e = absurd (omega arith)
lists_at (x ∷ xs) zero v l e = or_left (eqb x v) (lists xs v) (eq-eqb x v e)
lists_at (x ∷ xs) (suc k) v l e = or_right (eqb x v) (lists xs v) (lists_at xs k v (omega arith) e)

pub at_lists : (xs : List ℕ) (v : ℕ) → lists xs v ≡ true → (k : ℕ) × (k < length xs) × (get_or xs k 0 ≡ v)
at_lists [] v e = absurd (false≢true e)
at_lists (x ∷ xs) v e = elim (or_cases (eqb x v) (lists xs v) e) [
  | inl h ↦ (zero, omega arith, eqb-true x v h)
  | inr h ↦ (let r = at_lists xs v h in let l : r.0 < length xs = r.1 in (suc r.0, omega arith, r.2))
]

-- a part of a list, by places of the whole
module _ (xs : List ℕ) (low high : ℕ) where
  pub part_below : (k : ℕ) → k < length (between low high xs) → low + k < high
  part_below k l = omega (arith, simp (length-take, length-drop) at l)

  pub part_long : (k : ℕ) → high ≤ length xs → low + k < high → k < length (between low high xs)
  part_long k fits l = simp (length-take, length-drop) (omega arith)

  pub part_at : (k : ℕ) → k < length (between low high xs) → get_or (between low high xs) k 0 ≡ get_or xs (low + k) 0
  part_at k l =
      let s : k < high - low = omega (arith, part_below k l) in
      get_or-take (high - low) (drop low xs) k 0 s ∙ get_or-drop low xs k 0

module _ (s : Successors) where
  -- the row of u, whether or not u is a model
  abbrev pub row : ℕ → List ℕ
  row u = between (get_or s.starts u 0) (get_or s.starts (u + 1) 0) s.targets

  -- nothing was taken from what is no model
  pub follows_outside : (u v : ℕ) → s.models ≤ u → follows s u v ≡ false
  unfolding follows
  follows_outside u v l = ap (λ (b : Bool). lists (cond b (row u) []) v) (le-ltb u s.models l)

  -- and what was taken from a model is what its row has
  pub follows_row : (u v : ℕ) → u < s.models → follows s u v ≡ lists (row u) v
  unfolding follows
  follows_row u v l = ap (λ (b : Bool). lists (cond b (row u) []) v) (lt-ltb u s.models l)

  -- only models were taken, and only from models
  pub follows_within : Within s.models (follows s)
  follows_within u v e = elim (cases_lt u s.models) [
    | inl l ↦ (
        let low = get_or s.starts u 0 in
        let high = get_or s.starts (u + 1) 0 in
        let r = at_lists (row u) v (sym (follows_row u v l) ∙ e) in
        (l, subst (λ (x : ℕ). x < s.models) (sym (part_at s.targets low high r.0 r.1) ∙ r.2) (s.known u (low + r.0) l (part_below s.targets low high r.0 r.1)))
        )
    | inr l ↦ absurd (false≢true (sym (follows_outside u v l) ∙ e))
  ]

  -- the list and the test say the same
  pub follows_lists : (u v : ℕ) → follows s u v ≡ lists (taken s u) v
  unfolding follows
  follows_lists u v = refl

  pub taken_follows : (u k : ℕ) → k < length (taken s u) → follows s u (get_or (taken s u) k 0) ≡ true
  unfolding follows
  taken_follows u k l = lists_at (taken s u) k (get_or (taken s u) k 0) l refl

  pub follows_taken : (u v : ℕ) → follows s u v ≡ true → (k : ℕ) × (k < length (taken s u)) × (get_or (taken s u) k 0 ≡ v)
  unfolding follows
  follows_taken u v e = at_lists (taken s u) v e
