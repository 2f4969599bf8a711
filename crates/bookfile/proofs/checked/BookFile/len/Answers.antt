use Rattle.std.proofs.Common.{arith}
use Rattle.bookfile.proofs.Arrays.{length_derivations}
use Rattle.bookfile.proofs.checked.BookFile.len.Goals as goal

pub returns : goal.returns
returns c = let l = length_derivations c.args.self.now.firsts.now c.args.self.now.seconds.now in omega arith
