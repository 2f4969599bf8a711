use Rattle.lineage.proofs.Links.{links_exact}
use Rattle.lineage.proofs.links_are_exact.Goals as goal

pub returns : goal.returns
returns c = links_exact
