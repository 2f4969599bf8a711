use Rattle.folder.proofs.Fronts.{orders_decide}
use Rattle.folder.proofs.reading.order_bytes.Goals as goal

pub returns : goal.returns
returns c = orders_decide
