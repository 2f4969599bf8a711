use Rattle.history.proofs.Histories.{kinds_agree}
use Rattle.history.proofs.laws.kinds_agree.Goals as goal

pub returns : goal.returns
returns c = kinds_agree
