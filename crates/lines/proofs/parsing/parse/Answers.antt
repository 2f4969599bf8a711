use Rattle.std.proofs.Common.{◌<◌, length, None, ap, arith, rules}
use Rattle.lines.specs.Texts.{Parsed}
use Rattle.lines.proofs.Texts.{parsed_exactly}
use Rattle.lines.proofs.Computed.{form_only}
use Rattle.lines.proofs.parsing.parse.Goals as goal

pub returns-in_err-letter-clause-computed : goal.returns-in_err-letter-clause-computed
returns-in_err-letter-clause-computed c =
    let short : length c.args.line.now < 1 = search rules in
    rw c.from_residual.ensures (form_only c.args.line.now None (λ f s e. omega (arith, ap length e)))

pub returns-clause-exactly : goal.returns-clause-exactly
returns-clause-exactly c = let p : Parsed c.args.line.now c.form.result = search rules in parsed_exactly _ _ p

pub returns-clause-computed : goal.returns-clause-computed
returns-clause-computed c = let p : Parsed c.args.line.now c.form.result = search rules in form_only _ _ p
