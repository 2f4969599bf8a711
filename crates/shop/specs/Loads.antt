-- A shop opened from a checked book file.
use Rattle.std.specs.Prelude.{◌≡◌, ℕ, List, map, reverse, Ok, Err, Result}
use Rattle.book.specs.declared.derivation.Derivation.{Derivation}
use Rattle.book.specs.Derivations.{Valid}
use Rattle.book.specs.Books.{standing}
use Rattle.bookfile.specs.declared.checked.BookFile.{BookFile}
use Rattle.bookfile.specs.Files.{file}
use Rattle.bookfile.specs.Checked.{count_shown, shown}
use Rattle.index.specs.Meanings.{Meaning, nothing}
use Rattle.history.specs.declared.answer.Outcome.TheVariants.{Done}
use Rattle.history.specs.declared.call.Call.TheVariants.{Enter}
use Rattle.history.specs.declared.fault.ShopFault.{ShopFault}
use Rattle.history.specs.Events.{History}
use Rattle.history.specs.Table.{Refuses}
use Rattle.shop.specs.declared.running.Shop.{Shop}
use Rattle.shop.specs.Shops.{book_in, index_in, models_in, Follows}

-- the history of derivations entered in turn, none refused
abbrev pub entries : List Derivation → History
entries ds = reverse (map (λ d. (Enter d, Ok Done)) ds)

-- a shop that follows the history of exactly the file's entries; of a valid file none is refused
abbrev pub Loads : {X : Type 0} → (X → Meaning) → (X → Refuses) → BookFile → Refuses → Result (Shop X) ShopFault → Type 0
Loads meaning refuses f owed (Ok s) = Follows meaning refuses (count_shown f) owed (entries (shown f)) s
Loads meaning refuses f owed (Err e) = Valid (count_shown f) (shown f) → ⊥

-- its index was never built
abbrev pub Unbuilt : {X : Type 0} → (X → Meaning) → Result (Shop X) ShopFault → Type 0
Unbuilt meaning (Ok s) = meaning (index_in s) ≡ nothing
Unbuilt meaning (Err e) = Unit {0}

-- the file of the shop's book is the file that it was loaded from
abbrev pub Reloads : {X : Type 0} → BookFile → Result (Shop X) ShopFault → Type 0
Reloads f (Ok s) = (bytes : List ℕ) → Valid (count_shown f) (shown f) → bytes ≡ file (count_shown f) (shown f) → file (models_in s) (standing (book_in s)) ≡ bytes
Reloads f (Err e) = Valid (count_shown f) (shown f) → ⊥
