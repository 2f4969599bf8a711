use Rattle.lineage.proofs.Worked.{worked}
use Rattle.lineage.proofs.worked_book.Goals as goal

pub returns : goal.returns
returns c = worked
