use Rattle.std.proofs.Common.{◌≡◌, ◌<◌, ◌++◌, Ok, codes, decimal, arith, rules}
use Rattle.history.specs.declared.answer.Outcome.TheVariants.{Stop}
use Rattle.lines.specs.Lines.{ended}
use Rattle.lines.proofs.Replies.{few, numbered_short, wrote_replied}
use Rattle.lines.proofs.reply.write_reply.Goals as goal

pub returns-in-Ok-Stop : goal.returns-in-Ok-Stop
returns-in-Ok-Stop c =
    let m = c.in-Ok-Stop.stop.model in
    let small : m < 65536 = search rules in
    let is : c.args.reply ≡ Ok (Stop c.in-Ok-Stop.stop) = search rules in
    rw is (wrote_replied (ended (codes "stop " ++ decimal m)) _ _ c.write_numbered.new.out (numbered_short (codes "stop ") m (omega arith) small) (omega arith) c.write_numbered.ensures)

pub returns-in-Err : goal.returns-in-Err
returns-in-Err c =
    let n = c.number.result in
    let low = few c.in-Err.fault in
    let small : n < 65536 = omega (arith, c.number.ensures) in
    rw (c.in-Err.is, ← c.number.ensures) (wrote_replied (ended (codes "no " ++ decimal n)) _ _ c.write_numbered-in-Err.new.out (numbered_short (codes "no ") n (omega arith) small) (omega arith) c.write_numbered-in-Err.ensures)
