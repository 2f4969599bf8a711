use Rattle.rising.proofs.Keys.{laws}
use Rattle.rising.proofs.laws.laws_hold.Goals as goal

pub returns : goal.returns
returns g c = laws g.K.Ord.cmp g.met.K.Key.order
