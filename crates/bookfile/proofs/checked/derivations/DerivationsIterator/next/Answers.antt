use Rattle.bookfile.proofs.Walking.{seconds_end}
use Rattle.bookfile.proofs.checked.derivations.DerivationsIterator.next.Goals as goal

pub returns-in_err-to-clause-steps : goal.returns-in_err-to-clause-steps
returns-in_err-to-clause-steps c =
    let e = seconds_end c.args.self.now.firsts.now c.args.self.now.seconds.now c.in_err-to.ensures in
    rw c.from_residual-in_err-to.ensures (e, e)
