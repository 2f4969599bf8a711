-- What successors say of who was taken from whom.
use Rattle.std.specs.Prelude.{ℕ, ◌+◌, Bool, false, cond, not, ◌&&◌, ◌||◌, List, [], ◌∷◌, ◌==◌, nat_lt, slice_index}
use Rattle.std.specs.List.{between}
use Rattle.lineage.specs.Finite.{any, count}
use Rattle.lineage.specs.Book.{leads}
use Rattle.search.specs.declared.successors.Successors.{Successors}

-- how many models there are
abbrev pub models_of : Successors → ℕ
models_of s = s.models

-- the models that were taken from u; none if u is no model
abbrev pub taken : Successors → ℕ → List ℕ
taken s u = cond (nat_lt u s.models) (between (slice_index s.starts u) (slice_index s.starts (u + 1)) s.targets) []

-- whether v is in a list of models
abbrev pub lists : List ℕ → ℕ → Bool
lists [] v = false
lists (x ∷ xs) v = x == v || lists xs v

-- the test whether v was taken from u
unfoldable pub follows : Successors → ℕ → ℕ → Bool
follows s u v = lists (taken s u) v

-- u and v are models, and u leads to v
abbrev pub reaches : Successors → ℕ → ℕ → Bool
reaches s u v = nat_lt u s.models && nat_lt v s.models && leads s.models (follows s) u v

-- how many others u is related to, of the numbers below n
abbrev pub others : ℕ → (ℕ → ℕ → Bool) → ℕ → ℕ
others n S u = count n (λ v. not (u == v) && S u v)

-- u is related to another number below n that is related back to it
abbrev pub returned : ℕ → (ℕ → ℕ → Bool) → ℕ → Bool
returned n S u = any n (λ v. not (u == v) && (S u v && S v u))
