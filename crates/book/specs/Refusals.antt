-- The numbers that refusals are told by, and what a call answers that a refusal may stop.
use Rattle.std.specs.Prelude.{◌≡◌, ℕ, Some, None, Ok, Err, Option, Result}
use Rattle.rising.specs.declared.lent.NotAdded.{NotAdded}
use Rattle.rising.specs.declared.lent.NotAdded.TheVariants.{StandsAlready as Standing, Full}
use Rattle.rising.specs.declared.lent.NotThere.{NotThere}
use Rattle.book.specs.declared.refusal.Refusal.{Refusal}
use Rattle.book.specs.declared.refusal.Refusal.TheVariants.{CountOutOfRange, NoSuchModel, FromItself, StandsAlready, BookFull, DoesNotStand}

abbrev pub number : Refusal → ℕ
number CountOutOfRange = 1
number NoSuchModel = 2
number FromItself = 3
number StandsAlready = 4
number BookFull = 5
number DoesNotStand = 6

-- why the ordered list does not add a derivation, as a refusal
abbrev pub not_added : NotAdded → Refusal
not_added Standing = StandsAlready
not_added Full = BookFull

-- what the ordered list tells, as a refusal or none
abbrev pub add_refusal : Result (Unit {0}) NotAdded → Option Refusal
add_refusal (Ok u) = None
add_refusal (Err e) = Some (not_added e)

abbrev pub remove_refusal : Result (Unit {0}) NotThere → Option Refusal
remove_refusal (Ok u) = None
remove_refusal (Err e) = Some DoesNotStand

-- the first of two refusals
abbrev pub first : {E : Type 0} → Option E → Option E → Option E
first None o = o
first (Some e) o = Some e

-- a refusal, or else what comes next
abbrev pub unless : {A E : Type 0} → Option E → Result A E → Result A E
unless None next = next
unless (Some e) next = Err e

-- a call is stopped by the refusal that it is owed, and by no other
abbrev pub Answers : {A E : Type 0} → Option E → Result A E → Type 0
Answers owed (Ok a) = owed ≡ None
Answers owed (Err e) = owed ≡ Some e
