use Rattle.lineage.proofs.Notions.{groups_mutual}
use Rattle.lineage.proofs.groups_are_mutual.Goals as goal

pub returns : goal.returns
returns c = groups_mutual
