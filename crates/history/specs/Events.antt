-- Histories, and what happened in them.
use Rattle.std.specs.Prelude.{ℕ, List, [], ◌∷◌, ◌++◌, reverse, Ok, Err}
use Rattle.book.specs.declared.derivation.Derivation.{Derivation}
use Rattle.history.specs.declared.call.Call.{Call}
use Rattle.history.specs.declared.call.Call.TheVariants.{Enter, Strike, Index, Hold, Release, Order}
use Rattle.history.specs.Answers.{Answer}

-- the calls made with their answers, newest first
abbrev pub History : Type 0
History = List (Call × Answer)

-- the elementary things that happen in a shop: placed m p is a hold on m by p
pub data Event : Type 0 where
  entered : Derivation → Event
  struck : Derivation → Event
  indexed : Event
  placed : ℕ → ℕ → Event
  released : ℕ → Event

-- what a call counts as, in the order in which it happens, if it is not refused
abbrev pub counts_as : Call → List Event
counts_as (Enter d) = entered d ∷ []
counts_as (Strike d) = struck d ∷ []
counts_as (Index work) = indexed ∷ []
counts_as (Hold m p) = placed m p ∷ []
counts_as (Release m p) = released m ∷ []
counts_as (Order m) = []

-- the events of a call so answered, in the order in which they happen: of a refused call, none
abbrev pub events : Call → Answer → List Event
events call (Ok o) = counts_as call
events call (Err f) = []

-- the events of a history, newest first
abbrev pub happened : History → List Event
happened [] = []
happened (made ∷ before) = reverse (events made.0 made.1) ++ happened before
