-- How the starts of the rows are written: level stretches, each a cut of the rising list.
use Rattle.std.proofs.Common.{◌≡◌, ℕ, ◌+◌, ◌<◌, ◌≤◌, ◌≢◌, List, length, get_or, set, sym, ◌∙◌, subst, inl, inr, arith}
use Rattle.std.proofs.lemmas.List.{get_or-set_same, get_or-set_other}
use Rattle.std.proofs.lemmas.Bool.{cases_lt}
use Rattle.book.specs.declared.derivation.Derivation.{Derivation}
use Rattle.search.specs.Rows.{at, Cut, Level}

pub level_more : (was : List ℕ) (low i x : ℕ) (xs : List ℕ) → low ≤ i → i < length xs → Level was low i x xs → Level was low (i + 1) x (set xs i x)
level_more was low i x xs a l h = record {
  before = λ k b. let n : k ≢ i = omega arith in get_or-set_other xs i k x 0 n ∙ h.before k b;
  there = λ k b e. elim (cases_lt k i) [
    | inl f ↦ (let n : k ≢ i = omega arith in get_or-set_other xs i k x 0 n ∙ h.there k b f)
    | inr f ↦ (let s : i ≡ k = omega arith in subst (λ (y : ℕ). get_or (set xs i x) y 0 ≡ x) s (get_or-set_same xs i x 0 l))
  ];
  after = λ k b. let n : k ≢ i = omega arith in get_or-set_other xs i k x 0 n ∙ h.after k (omega arith);
}

module _ (ds : List Derivation) where
  -- each start below n is the cut at its place
  abbrev pub Cuts : ℕ → List ℕ → Type 0
  Cuts n starts = (u : ℕ) → u < n → Cut ds u (get_or starts u 0)

  -- one more stretch of starts that are all c
  pub cuts_more : (low high c : ℕ) (was starts : List ℕ) → Level was low high c starts → Cuts low was → ((u : ℕ) → low ≤ u → u < high → Cut ds u c) → Cuts high starts
  cuts_more low high c was starts h old new u l = elim (cases_lt u low) [
    | inl b ↦ subst (Cut ds u) (sym (h.before u b)) (old u b)
    | inr b ↦ subst (Cut ds u) (sym (h.there u b l)) (new u b l)
  ]

  -- the stretch up to the first model of the derivation at i, all before it being below
  pub cut_at : (i next : ℕ) → ((i j : ℕ) → i ≤ j → j < length ds → (at ds i).from ≤ (at ds j).from) → i < length ds → ((j : ℕ) → j < i → (at ds j).from < next) → (u : ℕ) → next ≤ u → u < (at ds i).from + 1 → Cut ds u i
  cut_at i next up l all u a b = record {
    fits = omega arith;
    under = λ j h. let f = all j h in omega arith;
    over = λ j h k. let f = up i j h k in omega arith;
  }

  -- the stretch behind the last derivation
  pub cut_end : (next : ℕ) → ((j : ℕ) → j < length ds → (at ds j).from < next) → (u : ℕ) → next ≤ u → Cut ds u (length ds)
  cut_end next all u a = record { fits = omega arith; under = λ j h. let f = all j h in omega arith; over = λ j h k. absurd (omega arith) }
