use Rattle.lineage.proofs.Few.{surplus_is_below}
use Rattle.lineage.proofs.surplus_is_below.Goals as goal

pub returns : goal.returns
returns c = surplus_is_below
