use Rattle.std.proofs.Common.{Ok, rules}
use Rattle.rising.specs.Outcomes.{AddsAnywhere}
use Rattle.rising.proofs.Told.{adds}
use Rattle.rising.proofs.lent.add.Goals as goal

pub returns-in_err-at-clause-adds : goal.returns-in_err-at-clause-adds
returns-in_err-at-clause-adds g c =
    let was = c.args.keys.now in
    let a : AddsAnywhere g.K.Ord.cmp was c.args.len c.args.key c.from_residual.result was = search rules in
    adds g.K.Ord.cmp g.met.K.Key.order was c.args.len c.args.key c.from_residual.result was a

pub returns-clause-adds : goal.returns-clause-adds
returns-clause-adds g c =
    let was = c.args.keys.now in
    let a : AddsAnywhere g.K.Ord.cmp was c.args.len c.args.key (Ok tt) c.insert_at.new.keys = search rules in
    adds g.K.Ord.cmp g.met.K.Key.order was c.args.len c.args.key (Ok tt) c.insert_at.new.keys a
