-- The lists that a running shop keeps, as the events make them.
use Rattle.std.specs.Prelude.{List, [], ◌∷◌, ◌++◌}
use Rattle.rising.specs.Lists.{insert, delete}
use Rattle.book.specs.declared.derivation.Derivation.{Derivation}
use Rattle.book.specs.Order.{by_models}
use Rattle.holds.specs.declared.sheet.Hold.{Hold}
use Rattle.holds.specs.Holds.{released as without}
use Rattle.history.specs.Events.{Event, entered, struck, indexed, placed, released}

-- the derivations that stand, rising
unfoldable pub book_of : List Event → List Derivation
book_of [] = []
book_of (entered d ∷ es) = insert by_models (book_of es) d
book_of (struck d ∷ es) = delete by_models (book_of es) d
book_of (indexed ∷ es) = book_of es
book_of (placed m p ∷ es) = book_of es
book_of (released m ∷ es) = book_of es

-- the holds that stand, oldest first
unfoldable pub sheet_of : List Event → List Hold
sheet_of [] = []
sheet_of (entered d ∷ es) = sheet_of es
sheet_of (struck d ∷ es) = sheet_of es
sheet_of (indexed ∷ es) = sheet_of es
sheet_of (placed m p ∷ es) = sheet_of es ++ record { model = m; holder = p } ∷ []
sheet_of (released m ∷ es) = without (sheet_of es) m
