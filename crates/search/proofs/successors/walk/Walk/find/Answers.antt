use Rattle.std.proofs.Common.{ℕ, ◌<◌, subst}
use Rattle.search.proofs.Marks.{only}
use Rattle.search.proofs.successors.walk.Walk.find.Goals as goal

pub find_all-requires : goal.find_all-requires
find_all-requires c v e = subst (λ (x : ℕ). x < 1024) (only c.args.model v e) c.requires
