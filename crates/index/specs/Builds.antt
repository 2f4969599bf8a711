-- What an indexing comes to.
use Rattle.std.specs.Prelude.{◌≡◌, ℕ, Bool, cond, Some, None, Ok, Err, Option, Result, nat_lt}
use Rattle.lineage.specs.Book.{surplus}
use Rattle.index.specs.declared.fault.IndexFault.{IndexFault}
use Rattle.index.specs.declared.fault.IndexFault.TheVariants.{WorkTooShort, TooMuchSurplus}
use Rattle.index.specs.Meanings.{Meaning, Means}

-- what an indexing of a book of n models with the test R, in k numbers of work space, is refused with by a kind of this capacity
unfoldable pub rule : ℕ → ℕ → (ℕ → ℕ → Bool) → ℕ → Option IndexFault
rule capacity n R k = cond (nat_lt k 32768) (Some WorkTooShort) (cond (nat_lt capacity (surplus n R)) (Some (TooMuchSurplus (surplus n R) capacity)) None)

-- a build that was owed a refusal or none, on an index that meant `was` and means `is`
abbrev pub Builds : Option IndexFault → ℕ → (ℕ → ℕ → Bool) → Meaning → Result (Unit {0}) IndexFault → Meaning → Type 0
Builds owed n R was (Ok u) is = (owed ≡ None) × Means is n R
Builds owed n R was (Err e) is = (owed ≡ Some e) × (is ≡ was)
