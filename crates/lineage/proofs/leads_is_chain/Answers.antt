use Rattle.lineage.proofs.Notions.{leads_chain}
use Rattle.lineage.proofs.leads_is_chain.Goals as goal

pub returns : goal.returns
returns c = leads_chain
