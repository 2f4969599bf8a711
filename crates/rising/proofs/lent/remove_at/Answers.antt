use Rattle.std.proofs.Common.{arith}
use Rattle.rising.proofs.Moves.{closed}
use Rattle.rising.proofs.lent.remove_at.Goals as goal

pub returns : goal.returns
returns g c = closed c.args.keys.now c.rotate_left.new.self c.args.at c.args.len c.index-keys-len.result (omega arith) (omega arith) c.rotate_left.ensures.after c.index-keys-len.is
