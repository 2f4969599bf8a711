use Rattle.std.proofs.Common.{◌≡◌, true, []}
use Rattle.book.specs.Counts.{models}
use Rattle.book.specs.Books.{standing, count_of, is_stale, in_turn}
use Rattle.bookfile.specs.Checked.{count_shown, shown, left}
use Rattle.bookfile.proofs.checked.BookFile.to_book.Given as goal

-- what is left to enter comes to what all of it comes to
abbrev pub invariant-loop-derivation : goal.invariant-loop-derivation
invariant-loop-derivation l =
    (in_turn (count_shown l.self) (standing l.book) (left l.derivation-iterator) ≡ in_turn (count_shown l.self) [] (shown l.self))
    × (models (count_of l.book) ≡ count_shown l.self)
    × (is_stale l.book ≡ true)
