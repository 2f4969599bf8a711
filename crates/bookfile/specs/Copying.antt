-- What copying a book file by way of a book comes to.
use Rattle.std.specs.Prelude.{◌≡◌, ℕ, ◌<◌, List, length, Some, None, Ok, Err, Result}
use Rattle.bookfile.specs.declared.copying.CopyRefusal.{CopyRefusal}
use Rattle.bookfile.specs.declared.copying.CopyRefusal.TheVariants.{Check, Enter, Write}
use Rattle.book.specs.Refusals.{number as book_number}
use Rattle.bookfile.specs.Refusals.{number, write_number}
use Rattle.text.specs.Placing.{placed}
use Rattle.bookfile.specs.Table.{file_refusal}

abbrev pub copy_number : CopyRefusal → ℕ
copy_number (Check e) = number e
copy_number (Enter e) = book_number e
copy_number (Write e) = write_number e

-- an accepted file is copied byte for byte, if there is room for it; none of its derivations is refused
abbrev pub Copies : List ℕ → List ℕ → Result ℕ CopyRefusal → List ℕ → Type 0
Copies bytes out (Ok len) after = (file_refusal bytes ≡ None) × (len ≡ length bytes) × (after ≡ placed out 0 bytes)
Copies bytes out (Err (Check e)) after = (file_refusal bytes ≡ Some e) × (after ≡ out)
Copies bytes out (Err (Enter e)) after = ⊥
Copies bytes out (Err (Write e)) after = (file_refusal bytes ≡ None) × (length out < length bytes) × (after ≡ out)
