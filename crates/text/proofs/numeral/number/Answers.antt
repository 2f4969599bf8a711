use Rattle.std.proofs.Common.{arith}
use Rattle.text.proofs.Fronts.{value_step}
use Rattle.text.proofs.numeral.number.Goals as goal

pub returns-in_err-checked_mul : goal.returns-in_err-checked_mul
returns-in_err-checked_mul c =
    let s = value_step c.args.digits.now c.loop-b.b-index c.requires c.loop-b-test.true in
    rw c.from_residual.ensures (omega (arith, s.1, s.2))

pub overflow_sub-b : goal.overflow_sub-b
overflow_sub-b c = (value_step c.args.digits.now c.loop-b.b-index c.requires c.loop-b-test.true).0

pub returns-in_err-n : goal.returns-in_err-n
returns-in_err-n c =
    let s = value_step c.args.digits.now c.loop-b.b-index c.requires c.loop-b-test.true in
    rw c.from_residual-in_err-n.ensures (omega (arith, s.1, s.2))

pub loop-b-preserved : goal.loop-b-preserved
loop-b-preserved c =
    let s = value_step c.args.digits.now c.loop-b.b-index c.requires c.loop-b-test.true in
    omega (arith, s.1)
