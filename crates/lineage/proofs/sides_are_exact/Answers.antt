use Rattle.lineage.proofs.Closure.{sides_exact}
use Rattle.lineage.proofs.sides_are_exact.Goals as goal

pub returns : goal.returns
returns c = sides_exact
