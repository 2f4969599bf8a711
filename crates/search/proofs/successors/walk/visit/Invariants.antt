use Rattle.std.proofs.Common.{◌≡◌, ℕ, ◌+◌, ◌≤◌, take, drop}
use Rattle.search.specs.Marks.{unmarked, Finds}
use Rattle.search.proofs.successors.walk.visit.Given as goal

abbrev pub invariant-loop-model : goal.invariant-loop-model
invariant-loop-model l =
    (l.initial.tail ≤ l.end)
    × (l.end + unmarked l.marks ≡ l.initial.tail + unmarked l.initial.marks)
    × ((h : ℕ) → h ≤ l.initial.tail → Finds (take l.model-index l.models) l.initial.marks (drop h (take l.initial.tail l.initial.found)) l.marks (drop h (take l.end l.found)))
