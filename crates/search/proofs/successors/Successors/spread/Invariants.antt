use Rattle.std.proofs.Common.{◌+◌, ◌≤◌, length}
use Rattle.search.specs.Following.{follows}
use Rattle.search.specs.Marks.{unmarked, Found}
use Rattle.search.specs.Walks.{found_in, waiting}
use Rattle.search.proofs.successors.Successors.spread.Given as goal

-- no more models were visited than were found
abbrev pub invariant-loop-model : goal.invariant-loop-model
invariant-loop-model l = (l.visited ≤ length (found_in l.walk)) × Found (follows l.self) l.from (waiting l.visited l.walk) l.walk.marks

abbrev pub decreases-loop-model : goal.decreases-loop-model
decreases-loop-model l = length (waiting l.visited l.walk) + unmarked l.walk.marks
