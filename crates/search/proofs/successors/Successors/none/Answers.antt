use Rattle.std.proofs.Common.{refl, arith}
use Rattle.search.proofs.Taken.{follows_outside}
use Rattle.search.proofs.successors.Successors.none.Goals as goal

pub returns : goal.returns
returns c = record { models = refl; follows = λ u v. follows_outside _ u v (omega arith) }
