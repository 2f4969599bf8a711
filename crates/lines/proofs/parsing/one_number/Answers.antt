use Rattle.lines.proofs.Texts.{alone}
use Rattle.lines.proofs.parsing.one_number.Goals as goal

pub returns : goal.returns
returns c = rw (c.then_some.ensures, c.is_empty.ensures) (alone c.args.bytes.now c.in_ok-v.v c.in_ok-v.rest.now c.in_ok-v.ensures)
