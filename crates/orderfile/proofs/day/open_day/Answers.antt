use Rattle.std.proofs.Common.{length, refl, ap, ◌∙◌, arith}
use Rattle.std.proofs.lemmas.Bool.{le-ltb}
use Rattle.bookfile.specs.Files.{count_in, derivations_in}
use Rattle.bookfile.specs.Checked.{count_shown, shown}
use Rattle.bookfile.proofs.Files.{count_in_file, derivations_in_file}
use Rattle.orderfile.proofs.day.open_day.Goals as goal

pub returns : goal.returns
returns g c =
    let f = c.in_ok-file.file in
    let whole = c.in_ok-file.ensures.accepts.1 in
    let n = ap count_in whole ∙ count_in_file (count_shown f) (shown f) in
    let ds = ap derivations_in whole ∙ derivations_in_file (count_shown f) (shown f) in
    (rw (c.in_ok-file.ensures.table, le-ltb 32768 (length c.args.day.orders.now) (omega arith)) refl, rw (n, ds) c.in-Ok.ensures.follows)
