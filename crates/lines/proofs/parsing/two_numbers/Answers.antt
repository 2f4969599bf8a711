use Rattle.lines.proofs.Texts.{no_second}
use Rattle.lines.proofs.parsing.two_numbers.Goals as goal

pub returns-in_err-v : goal.returns-in_err-v
returns-in_err-v c = rw c.from_residual-in_err-v.ensures (no_second _ _ _ c.in_ok-u.ensures c.in_err-v.ensures)
