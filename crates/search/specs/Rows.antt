-- Rising derivations cut into rows, one for each first model.
use Rattle.std.specs.Prelude.{◌≡◌, ℕ, ◌<◌, ◌≤◌, List, length, slice_index, slice_index_or}
use Rattle.book.specs.declared.derivation.Derivation.{Derivation}

-- the derivation at a place
abbrev pub at : List Derivation → ℕ → Derivation
at ds k = slice_index_or ds k (record { from = 0; to = 0 })

-- of a rising list, c derivations come before those of u
pub record Cut (ds : List Derivation) (u c : ℕ) : Type 0 where
  pub fits : c ≤ length ds
  pub under : (j : ℕ) → j < c → (at ds j).from < u
  pub over : (j : ℕ) → c ≤ j → j < length ds → u ≤ (at ds j).from

-- x stands at the places from low to high, and what stood elsewhere still stands there
pub record Level (was : List ℕ) (low high x : ℕ) (xs : List ℕ) : Type 0 where
  pub before : (k : ℕ) → k < low → slice_index xs k ≡ slice_index was k
  pub there : (k : ℕ) → low ≤ k → k < high → slice_index xs k ≡ x
  pub after : (k : ℕ) → high ≤ k → slice_index xs k ≡ slice_index was k
