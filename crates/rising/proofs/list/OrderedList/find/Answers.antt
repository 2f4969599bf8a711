use Rattle.rising.proofs.Told.{finds_front}
use Rattle.rising.proofs.list.OrderedList.find.Goals as goal

pub returns-clause-finds : goal.returns-clause-finds
returns-clause-finds g c =
    finds_front g.K.Ord.cmp g.met.K.Key.order c.args.self.now.keys.now c.args.self.now.len c.args.key c.find_front.result c.find_front.ensures.anywhere
