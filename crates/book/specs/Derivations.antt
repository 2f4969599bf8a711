-- Which derivations a book of n models can have, and what a list of them says of who was taken from whom.
use Rattle.std.specs.Prelude.{◌≡◌, ℕ, ◌≤◌, Bool, true, cond, not, ◌&&◌, List, [], ◌∷◌, map, length, Some, None, Option, ◌==◌, nat_lt}
use Rattle.lineage.specs.Book.{among}
use Rattle.rising.specs.Lists.{rising}
use Rattle.book.specs.declared.derivation.Derivation.{Derivation}
use Rattle.book.specs.declared.refusal.Refusal.{Refusal}
use Rattle.book.specs.declared.refusal.Refusal.TheVariants.{NoSuchModel, FromItself}
use Rattle.book.specs.Refusals.{first}
use Rattle.book.specs.Order.{by_models}

-- both models are below n
abbrev pub known : ℕ → Derivation → Bool
known n d = nat_lt d.from n && nat_lt d.to n

-- a derivation of two different models below n
abbrev pub proper : ℕ → Derivation → Bool
proper n d = known n d && not (d.from == d.to)

abbrev pub all_proper : ℕ → List Derivation → Bool
all_proper n [] = true
all_proper n (d ∷ ds) = proper n d && all_proper n ds

-- the same as refusals: no such model, and then also from itself
abbrev pub unknown : ℕ → Derivation → Option Refusal
unknown n d = cond (known n d) None (Some NoSuchModel)

abbrev pub improper : ℕ → Derivation → Option Refusal
improper n d = first (unknown n d) (cond (d.from == d.to) (Some FromItself) None)

-- what a book can have: a rising list of at most 2,048 derivations, all proper, of 1 to 1,024 models
pub record Valid (n : ℕ) (ds : List Derivation) : Type 0 where
  pub some : 1 ≤ n
  pub most : n ≤ 1024
  pub few : length ds ≤ 2048
  pub rises : rising by_models ds ≡ true
  pub proper : all_proper n ds ≡ true

-- the test whether v was taken from u
abbrev pub taken_from : List Derivation → ℕ → ℕ → Bool
taken_from ds = among (map (λ d. (d.from, d.to)) ds)
