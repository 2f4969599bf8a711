use Rattle.std.proofs.Common.{ap, ◌∙◌}
use Rattle.std.specs.Result.{result_ok}
use Rattle.rising.proofs.Told.{finds}
use Rattle.rising.proofs.lent.find.Goals as goal

pub returns-clause-finds : goal.returns-clause-finds
returns-clause-finds g c =
    finds g.K.Ord.cmp g.met.K.Key.order c.args.keys.now c.args.key c.ok.result (c.ok.ensures.value ∙ ap result_ok c.seek.ensures.halving)
