use Rattle.lineage.proofs.Closure.{T_exact}
use Rattle.lineage.proofs.closure_is_least.Goals as goal

pub returns : goal.returns
returns c = T_exact
