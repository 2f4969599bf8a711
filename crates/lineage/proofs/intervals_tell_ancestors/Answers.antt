use Rattle.lineage.proofs.Notions.{intervals_tell}
use Rattle.lineage.proofs.intervals_tell_ancestors.Goals as goal

pub returns : goal.returns
returns c = intervals_tell
