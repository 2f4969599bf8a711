-- What plain search means, and what its own calls show.
use Rattle.std.specs.Prelude.{◌≡◌, ℕ, ◌<◌, Bool, None, Some, Ok, Err, Option, Result}
use Rattle.lineage.specs.Book.{leads}
use Rattle.index.specs.declared.fault.IndexFault.{IndexFault}
use Rattle.index.specs.Meanings.{Meaning, nothing, over, counted, tells}
use Rattle.search.specs.declared.plain.PlainSearch.{PlainSearch}
use Rattle.search.specs.declared.successors.Successors.{Successors}
use Rattle.search.specs.Following.{models_of, reaches, others, returned}

-- nothing, or who reaches whom among the successors
abbrev pub meaning_kept : Option Successors → Meaning
meaning_kept None = nothing
meaning_kept (Some s) = over (models_of s) (reaches s)

abbrev pub meaning_of : PlainSearch → Meaning
meaning_of s = meaning_kept s.successors

-- how many other models descend from u
abbrev pub descendants_of : PlainSearch → ℕ → ℕ
descendants_of s u = others (counted (meaning_of s)) (tells (meaning_of s)) u

-- u leads to another model that leads back to it
abbrev pub circles : PlainSearch → ℕ → Bool
circles s u = returned (counted (meaning_of s)) (tells (meaning_of s)) u

-- a refused build leaves all as it was; after an accepted one the calls show the descendants and the circles of the book
pub record ShowsBook (s : PlainSearch) (n : ℕ) (R : ℕ → ℕ → Bool) : Type 0 where
  pub descendants : (u : ℕ) → u < n → descendants_of s u ≡ others n (leads n R) u
  pub circles : (u : ℕ) → u < n → circles s u ≡ returned n (leads n R) u

abbrev pub Shows : PlainSearch → ℕ → (ℕ → ℕ → Bool) → Result (Unit {0}) IndexFault → PlainSearch → Type 0
Shows was n R (Ok u) s = ShowsBook s n R
Shows was n R (Err e) s = s ≡ was
