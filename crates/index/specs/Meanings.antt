-- What an index means.
use Rattle.std.specs.Prelude.{◌≡◌, ℕ, ◌<◌, Bool, false, ◌&&◌, Decides, nat_lt}
use Rattle.lineage.specs.Finite.{Chain}

-- nothing, or a count with a relation on the models below it
pub data Meaning : Type 0 where
  nothing : Meaning
  over : ℕ → (ℕ → ℕ → Bool) → Meaning

abbrev pub counted : Meaning → ℕ
counted nothing = 0
counted (over n S) = n

-- what an index of this meaning answers: yes if it relates u to v, and no where a model is not below its count
abbrev pub tells : Meaning → ℕ → ℕ → Bool
tells nothing u v = false
tells (over n S) u v = (nat_lt u n && nat_lt v n) && S u v

-- the meaning is the count n and exactly the leads-to relation of R: yes where there is a chain
pub record Means (m : Meaning) (n : ℕ) (R : ℕ → ℕ → Bool) : Type 0 where
  pub count : counted m ≡ n
  pub leads : (u v : ℕ) → u < n → v < n → Decides (tells m u v) (Chain R u v)
