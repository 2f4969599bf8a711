use Rattle.std.proofs.Common.{◌≡◌, ℕ, ◌+◌, ◌*◌, take}
use Rattle.book.specs.declared.derivation.Derivation.{Derivation}
use Rattle.bookfile.specs.Files.{column}
use Rattle.text.specs.Placing.{placed}
use Rattle.bookfile.proofs.writing.put_column.Given as goal

abbrev pub invariant-loop-derivation : goal.invariant-loop-derivation
invariant-loop-derivation g l =
    (l.end ≡ l.at + 2 * l.derivation-index)
    × ((f : Derivation → ℕ) → ((d : Derivation) (n : ℕ) → goal.F-post g l.model d n → n ≡ f d)
    → l.out ≡ placed l.initial.out l.at (column f (take l.derivation-index l.derivations)))
