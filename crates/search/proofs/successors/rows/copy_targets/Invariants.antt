use Rattle.std.proofs.Common.{◌≡◌, ℕ, ◌<◌, get_or}
use Rattle.search.specs.Rows.{at}
use Rattle.search.proofs.successors.rows.copy_targets.Given as goal

abbrev pub invariant-loop-i : goal.invariant-loop-i
invariant-loop-i l = (k : ℕ) → k < l.i → get_or l.targets k 0 ≡ (at l.derivations k).to
