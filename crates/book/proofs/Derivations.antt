-- Derivations: that they have a total order, what the test of a proper one says, and that a list of proper ones keeps being one when a derivation is inserted or deleted.
use Rattle.std.proofs.Common.{◌≡◌, ℕ, true, List, [], ◌∷◌, None, refl, arith, rules}
use Rattle.std.proofs.lemmas.Grind.{common_steps}
use Rattle.std.proofs.lemmas.Bool.{and_from}
use Rattle.rising.specs.Order.{Order}
use Rattle.rising.specs.Lists.{insert, delete}
use Rattle.book.specs.declared.derivation.Derivation.{Derivation}
use Rattle.book.specs.Order.{by_models}
use Rattle.book.specs.Derivations.{proper, all_proper, improper}

-- derivations have a total order
pub models_order : Order by_models
models_order = search rules

-- a derivation is proper exactly if no refusal is owed for it
pub proper_from : (n : ℕ) (d : Derivation) → improper n d ≡ None → proper n d ≡ true
proper_from n d e = grind (arith, common_steps)

pub proper_to : (n : ℕ) (d : Derivation) → proper n d ≡ true → improper n d ≡ None
proper_to n d e = grind (arith, common_steps)

module _ (n : ℕ) where
  pub all_proper_insert : (ds : List Derivation) (d : Derivation) → proper n d ≡ true → all_proper n ds ≡ true → all_proper n (insert by_models ds d) ≡ true
  all_proper_insert [] d p a = and_from (proper n d) true p refl
  all_proper_insert (x ∷ xs) d p a =
      let rest = all_proper_insert xs d p in
      grind (arith, common_steps)

  pub all_proper_delete : (ds : List Derivation) (d : Derivation) → all_proper n ds ≡ true → all_proper n (delete by_models ds d) ≡ true
  all_proper_delete [] d a = refl
  all_proper_delete (x ∷ xs) d a =
      let rest = all_proper_delete xs d in
      grind (arith, common_steps)
