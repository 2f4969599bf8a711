use Rattle.lineage.proofs.Labels.{labels_exact}
use Rattle.lineage.proofs.labels_are_exact.Goals as goal

pub returns : goal.returns
returns c = labels_exact
