use Rattle.std.proofs.Common.{Ok, rules}
use Rattle.bookfile.proofs.Entering.{enters_all}
use Rattle.bookfile.proofs.checked.BookFile.to_book.Goals as goal

pub returns-in_err-enter-clause-all : goal.returns-in_err-enter-clause-all
returns-in_err-enter-clause-all c = enters_all c.args.self.now c.from_residual-in_err-enter.result (search rules)

pub returns-clause-all : goal.returns-clause-all
returns-clause-all c = enters_all c.args.self.now (Ok c.loop-derivation.book) (search rules)
