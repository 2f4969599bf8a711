use Rattle.lineage.proofs.Counts.{counts_exact}
use Rattle.lineage.proofs.counts_are_exact.Goals as goal

pub returns : goal.returns
returns c = counts_exact
