use Rattle.search.proofs.Reached.{answer_chain}
use Rattle.search.proofs.successors.Successors.reached.Goals as goal

pub returns : goal.returns
returns c = record { leads = c.spread.ensures; chains = λ v. answer_chain c.args.self.now _ c.args.from v (c.spread.ensures v) }
