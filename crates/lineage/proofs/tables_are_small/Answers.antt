use Rattle.lineage.proofs.Bound.{tables_small}
use Rattle.lineage.proofs.tables_are_small.Goals as goal

pub returns : goal.returns
returns c = tables_small
