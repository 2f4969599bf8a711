use Rattle.std.proofs.Common.{length, ap, ◌∙◌, arith}
use Rattle.std.proofs.lemmas.Result.{err_from_is_err_and}
use Rattle.bookfile.specs.Checked.{count_shown, shown}
use Rattle.bookfile.proofs.Files.{length_file}
use Rattle.bookfile.proofs.copying.copy.Goals as goal

pub returns-in_err-len : goal.returns-in_err-len
returns-in_err-len c =
    let p = err_from_is_err_and c.from_residual-in_err-len.result c.from_residual-in_err-len.ensures.1 in
    let f = c.in_ok-file.file in
    let short = c.in_err-len.ensures.writes in
    let accepted = c.in_ok-file.ensures.accepts in
    let stand = ap length (c.in_ok-book.ensures.all accepted.0) in
    let long = ap length accepted.1 ∙ length_file (count_shown f) (shown f) in
    let less = short.0 in
    rw (p.1, p.2) (c.in_ok-file.ensures.table, omega arith, short.1)
