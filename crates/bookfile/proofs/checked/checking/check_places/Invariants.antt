use Rattle.std.proofs.Common.{◌≡◌, None}
use Rattle.book.specs.Counts.{models}
use Rattle.bookfile.specs.Checked.{left}
use Rattle.bookfile.specs.Table.{places_refusal}
use Rattle.bookfile.proofs.checked.checking.check_places.Given as goal

-- what is left is refused as all of it is
abbrev pub invariant-loop-derivation : goal.invariant-loop-derivation
invariant-loop-derivation l =
    places_refusal (models l.count) l.before (left l.derivation-iterator) ≡ places_refusal (models l.count) None (left l.fn.derivations)
