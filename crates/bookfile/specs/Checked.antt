-- What a checked file shows, and which files are accepted.
use Rattle.std.specs.Prelude.{◌≡◌, ℕ, ◌*◌, true, List, [], take, drop, Some, None, Ok, Err, Result, ◌≢◌}
use Rattle.book.specs.declared.derivation.Derivation.{Derivation}
use Rattle.book.specs.declared.kept.Book.{Book}
use Rattle.book.specs.declared.refusal.Refusal.{Refusal}
use Rattle.book.specs.Counts.{models, count_refusal}
use Rattle.book.specs.Refusals.{unless}
use Rattle.book.specs.Derivations.{Valid}
use Rattle.book.specs.Books.{standing, count_of, is_stale, in_turn}
use Rattle.bookfile.specs.declared.checked.BookFile.{BookFile}
use Rattle.bookfile.specs.declared.checked.derivations.Derivations.{Derivations}
use Rattle.bookfile.specs.declared.refusal.FileRefusal.{FileRefusal}
use Rattle.bookfile.specs.Files.{derivations, file}
use Rattle.bookfile.specs.Table.{sizes_refusal}

-- the count that a checked file shows
abbrev pub count_shown : BookFile → ℕ
count_shown f = f.models

-- the derivations that are left of the two arrays
abbrev pub left : Derivations → List Derivation
left ds = derivations ds.firsts.now ds.seconds.now

-- the derivations that a checked file shows
abbrev pub shown : BookFile → List Derivation
shown f = derivations f.firsts.now f.seconds.now

-- the rest of a file, behind its sizes, as the two arrays
abbrev pub Splits : ℕ → ℕ → List ℕ → Result BookFile FileRefusal → Type 0
Splits n len rest (Ok f) =
    (sizes_refusal n len rest ≡ None) × (count_shown f ≡ n) × (f.firsts.now ≡ take (2 * len) rest) × (f.seconds.now ≡ drop (2 * len) rest)
Splits n len rest (Err e) = sizes_refusal n len rest ≡ Some e

-- accepted are exactly the files of what a book can have, and such a file shows just that
abbrev pub Accepts : List ℕ → Result BookFile FileRefusal → Type 0
Accepts bytes (Ok f) = Valid (count_shown f) (shown f) × (bytes ≡ file (count_shown f) (shown f))
Accepts bytes (Err e) = (n : ℕ) (ds : List Derivation) → Valid n ds → bytes ≢ file n ds

-- a file is that of one count and one list alone
abbrev pub Reads : List ℕ → Result BookFile FileRefusal → Type 0
Reads bytes (Ok f) = (n : ℕ) (ds : List Derivation) → bytes ≡ file n ds → (count_shown f ≡ n) × (shown f ≡ ds)
Reads bytes (Err e) = Unit {0}

-- the derivations of a file entered in turn into a new book of its count: that book, or the first refusal
abbrev pub entering : BookFile → Result (List Derivation) Refusal
entering f = unless (count_refusal (count_shown f)) (in_turn (count_shown f) [] (shown f))

abbrev pub Enters : BookFile → Result Book Refusal → Type 0
Enters f (Ok b) = (entering f ≡ Ok (standing b)) × (models (count_of b) ≡ count_shown f) × (is_stale b ≡ true)
Enters f (Err e) = entering f ≡ Err e

-- of a valid file none is refused, and the book has what the file shows
abbrev pub EntersAll : BookFile → Result Book Refusal → Type 0
EntersAll f (Ok b) = Valid (count_shown f) (shown f) → standing b ≡ shown f
EntersAll f (Err e) = Valid (count_shown f) (shown f) → ⊥
