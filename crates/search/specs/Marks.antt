-- Marks on the models, and a search under way: the models that were found are marked, and those of them that are still to be visited wait in a list.
use Rattle.std.specs.Prelude.{◌≡◌, ℕ, ◌+◌, Bool, true, false, cond, ◌⊎◌, List, [], ◌∷◌, length, slice_index_or}
use Rattle.lineage.specs.Finite.{Chain}
use Rattle.search.specs.Following.{lists}

-- how many places have no mark
unfoldable pub unmarked : List Bool → ℕ
unmarked [] = 0
unmarked (m ∷ ms) = cond m 0 1 + unmarked ms

-- the place v has a mark
abbrev pub Marked : List Bool → ℕ → Type 0
Marked m v = slice_index_or m v false ≡ true

-- the models ts are found: they are marked, what was marked or waited still does, and what is marked anew is one of ts and waits
pub record Finds (ts : List ℕ) (m : List Bool) (q : List ℕ) (m' : List Bool) (q' : List ℕ) : Type 0 where
  pub size : length m' ≡ length m
  pub room : length q' + unmarked m' ≡ length q + unmarked m
  pub marks : (v : ℕ) → Marked m v → Marked m' v
  pub waits : (v : ℕ) → lists q v ≡ true → lists q' v ≡ true
  pub all : (v : ℕ) → lists ts v ≡ true → Marked m' v
  pub anew : (v : ℕ) → Marked m' v → Marked m v ⊎ ((lists ts v ≡ true) × (lists q' v ≡ true))
  pub queued : (v : ℕ) → lists q' v ≡ true → (lists q v ≡ true) ⊎ (lists ts v ≡ true)

-- u is marked, each mark has a chain of R from u, what waits is marked, and a step of R from a mark that does not wait leads to a mark
pub record Found (R : ℕ → ℕ → Bool) (u : ℕ) (q : List ℕ) (m : List Bool) : Type 0 where
  pub start : Marked m u
  pub chained : (v : ℕ) → Marked m v → Chain R u v
  pub queued : (v : ℕ) → lists q v ≡ true → Marked m v
  pub visited : (w v : ℕ) → Marked m w → R w v ≡ true → (lists q w ≡ true) ⊎ Marked m v

-- u is marked, each mark has a chain of R from u, and no step of R leads from a mark to a place without one
pub record Closed (R : ℕ → ℕ → Bool) (u : ℕ) (m : List Bool) : Type 0 where
  pub start : Marked m u
  pub chained : (v : ℕ) → Marked m v → Chain R u v
  pub closed : (w v : ℕ) → Marked m w → R w v ≡ true → Marked m v
