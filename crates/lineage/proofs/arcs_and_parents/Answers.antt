use Rattle.lineage.proofs.Notions.{arcs_parents}
use Rattle.lineage.proofs.arcs_and_parents.Goals as goal

pub returns : goal.returns
returns c = arcs_parents
