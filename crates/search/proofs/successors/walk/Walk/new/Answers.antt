use Rattle.std.proofs.Common.{refl, arith}
use Rattle.search.proofs.Marks.{unmarked_all}
use Rattle.search.proofs.successors.walk.Walk.new.Goals as goal

pub invariant_of-result : goal.invariant_of-result
invariant_of-result c = record { size = refl; room = omega (arith, unmarked_all 1024) }
