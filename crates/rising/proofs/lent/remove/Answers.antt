use Rattle.std.proofs.Common.{Ok, rules}
use Rattle.rising.specs.Outcomes.{RemovesAnywhere}
use Rattle.rising.proofs.Told.{removes}
use Rattle.rising.proofs.lent.remove.Goals as goal

pub returns-in_err-at-clause-removes : goal.returns-in_err-at-clause-removes
returns-in_err-at-clause-removes g c =
    let was = c.args.keys.now in
    let a : RemovesAnywhere g.K.Ord.cmp was c.args.len c.args.key c.from_residual.result was = search rules in
    removes g.K.Ord.cmp g.met.K.Key.order was c.args.len c.args.key c.from_residual.result was a

pub returns-clause-removes : goal.returns-clause-removes
returns-clause-removes g c =
    let was = c.args.keys.now in
    let a : RemovesAnywhere g.K.Ord.cmp was c.args.len c.args.key (Ok tt) c.remove_at.new.keys = search rules in
    removes g.K.Ord.cmp g.met.K.Key.order was c.args.len c.args.key (Ok tt) c.remove_at.new.keys a
