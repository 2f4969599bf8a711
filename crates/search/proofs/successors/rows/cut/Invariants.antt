use Rattle.std.proofs.Common.{ℕ, ◌<◌, ◌≤◌, get_or}
use Rattle.search.specs.Rows.{at, Cut}
use Rattle.search.proofs.successors.rows.cut.Given as goal

abbrev pub invariant-loop-i : goal.invariant-loop-i
invariant-loop-i l =
    (l.next ≤ l.models)
    × ((u : ℕ) → u < l.next → Cut l.derivations u (get_or l.starts u 0))
    × ((j : ℕ) → j < l.i → (at l.derivations j).from < l.next)
