use Rattle.lineage.proofs.Exact.{answer_exact}
use Rattle.lineage.proofs.answer_is_leads.Goals as goal

pub returns : goal.returns
returns c = answer_exact
