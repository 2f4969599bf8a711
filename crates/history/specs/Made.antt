-- The answer to a call, computed, and the history that calls make.
use Rattle.std.specs.Prelude.{ℕ, cond, ◌&&◌, List, [], ◌∷◌, Some, None, Ok, Option, nat_lt}
use Rattle.lineage.specs.Finite.{least}
use Rattle.lineage.specs.Book.{leads}
use Rattle.book.specs.Refusals.{unless}
use Rattle.history.specs.declared.answer.Outcome.{Outcome}
use Rattle.history.specs.declared.answer.Outcome.TheVariants.{Done, Carve, Stop}
use Rattle.history.specs.declared.call.Call.{Call}
use Rattle.history.specs.Answers.{Answer}
use Rattle.history.specs.Events.{Event, History, happened}
use Rattle.history.specs.Standing.{stands, held}
use Rattle.history.specs.Table.{Refuses, refusal}
use Rattle.history.specs.Laws.{ordered}

-- the lowest held model below n that leads to m, or n where none does
abbrev pub lowest_held : ℕ → List Event → ℕ → ℕ
lowest_held n es m = least n (λ h. held es h && leads n (stands es) h m)

-- what a call that is not refused comes to
abbrev pub grant : ℕ → List Event → Option ℕ → Outcome
grant n es None = Done
grant n es (Some m) = cond (nat_lt (lowest_held n es m) n) (Stop (record { model = lowest_held n es m })) Carve

-- the answer to a call after the events so far
abbrev pub answer_to : ℕ → Refuses → List Event → Call → Answer
answer_to n refuses es call = unless (refusal n refuses es call) (Ok (grant n es (ordered call)))

-- a history with one more call
abbrev pub with_call : ℕ → Refuses → History → Call → History
with_call n refuses h call = (call, answer_to n refuses (happened h) call) ∷ h

-- the history that calls make, newest first
abbrev pub made : ℕ → Refuses → List Call → History
made n refuses [] = []
made n refuses (call ∷ before) = with_call n refuses (made n refuses before) call
