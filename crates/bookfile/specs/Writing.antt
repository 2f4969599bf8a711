-- What writing a book file comes to.
use Rattle.std.specs.Prelude.{◌≡◌, ℕ, ◌+◌, ◌*◌, ◌<◌, ◌≤◌, List, length, take, None, Ok, Err, Result}
use Rattle.book.specs.declared.derivation.Derivation.{Derivation}
use Rattle.book.specs.Derivations.{Valid}
use Rattle.bookfile.specs.declared.refusal.WriteRefusal.{WriteRefusal}
use Rattle.bookfile.specs.Files.{file}
use Rattle.text.specs.Placing.{placed}
use Rattle.bookfile.specs.Table.{file_refusal}

-- the file stands in front, and what is behind it is as it was; or there is too little room, and nothing is touched
abbrev pub Writes : ℕ → List Derivation → List ℕ → Result ℕ WriteRefusal → List ℕ → Type 0
Writes n ds out (Ok len) after = (len ≡ 4 + 4 * length ds) × (len ≤ length out) × (after ≡ placed out 0 (file n ds))
Writes n ds out (Err e) after = (length out < 4 + 4 * length ds) × (after ≡ out)

-- what was written is accepted, and is the file of what was written alone
abbrev pub ReadsBack : ℕ → List Derivation → Result ℕ WriteRefusal → List ℕ → Type 0
ReadsBack n ds (Ok len) after =
    (file_refusal (take len after) ≡ None) × Valid n ds
    × ((m : ℕ) (es : List Derivation) → take len after ≡ file m es → (m ≡ n) × (es ≡ ds))
ReadsBack n ds (Err e) after = Unit {0}
