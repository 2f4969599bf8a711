use Rattle.std.proofs.Common.{◌≡◌, ◌≤◌, false, not, ◌&&◌, eqb, get_or}
use Rattle.lineage.specs.Finite.{count}
use Rattle.search.proofs.successors.descending.count_others.Given as goal

abbrev pub invariant-loop-v : goal.invariant-loop-v
invariant-loop-v l = (l.many ≤ l.v) × (l.many ≡ count l.v (λ v. not (eqb l.model v) && get_or l.marks v false))
