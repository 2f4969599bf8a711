use Rattle.lineage.proofs.Listing.{starts_preorder}
use Rattle.lineage.proofs.starts_are_preorder.Goals as goal

pub returns : goal.returns
returns c = starts_preorder
