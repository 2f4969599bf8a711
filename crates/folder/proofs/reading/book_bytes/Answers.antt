use Rattle.folder.proofs.Fronts.{book_decides}
use Rattle.folder.proofs.reading.book_bytes.Goals as goal

pub returns : goal.returns
returns c = book_decides
