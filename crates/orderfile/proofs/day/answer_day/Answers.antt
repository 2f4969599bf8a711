use Rattle.std.proofs.Common.{◌≡◌, ◌*◌, length, refl, arith}
use mathlib.Core.Path.{fun_ext}
use native.Mathlib.Nat.{le-max_left, le-max_right, max-le}
use Rattle.bookfile.specs.Files.{count_in, derivations_in}
use Rattle.index.specs.Builds.{rule}
use Rattle.lines.specs.Lines.{lines_of}
use Rattle.shop.specs.Loads.{entries}
use Rattle.orderfile.proofs.Lawful.{lawfully}
use Rattle.orderfile.proofs.Printing.{printed_fault, printed_replies}
use Rattle.orderfile.proofs.day.answer_day.Goals as goal
use Rattle.orderfile.proofs.day.answer_day.Goals.{then-out-lt-REPLY_ROOM-via-then-out-lt-REPLY_ROOM, then-out-lt-REPLY_ROOM-via-else-out-lt-REPLY_ROOM+then-out-lines}

pub returns-then-out-lt-REPLY_ROOM : goal.returns-then-out-lt-REPLY_ROOM
returns-then-out-lt-REPLY_ROOM g c =
    let lines = length (lines_of c.args.day.orders.now) in
    let low = le-max_left 16 (16 * lines) in
    let high = le-max_right 16 (16 * lines) in
    let many = c.count_lines-lines.ensures in
    record {
      prints = (elim c.then-out-lt-REPLY_ROOM.branch [ then-out-lt-REPLY_ROOM-via-then-out-lt-REPLY_ROOM w ↦ omega arith | then-out-lt-REPLY_ROOM-via-else-out-lt-REPLY_ROOM+then-out-lines w ↦ omega arith ], refl);
      law = lawfully _ _ _ _;
    }

pub returns-in-Err : goal.returns-in-Err
returns-in-Err g c =
    let many = c.count_lines-lines.ensures in
    let e = printed_fault g.I.Index.CAPACITY (length c.args.work.now) c.args.day.book.now c.args.day.orders.now c.in-Err.fault c.in-Err.ensures in
    let told = c.write_fault.ensures in
    let short = told.short in
    record {
      prints = rw e (max-le (omega arith) (omega arith), told.end, omega arith, told.bytes);
      law = lawfully _ _ _ _;
    }

pub returns-in-Ok : goal.returns-in-Ok
returns-in-Ok g c =
    let many = c.count_lines-lines.ensures in
    let opened = c.in-Ok.ensures in
    let book = c.args.day.book.now in
    let e = printed_replies g.I.Index.CAPACITY (length c.args.work.now) book c.args.day.orders.now opened.0 in
    let ruled : g.I.Index.refuses c.args.index ≡ rule g.I.Index.CAPACITY = fun_ext (λ n. fun_ext (λ R. fun_ext (λ k. g.met.I.Index.rules c.args.index n R k))) in
    let told = c.answer_lines.ensures.by_history (count_in book) (rule g.I.Index.CAPACITY) (entries (derivations_in book)) (rw ruled at opened.1) in
    record {
      prints = rw e (max-le (omega arith) (omega arith), told.0, c.answer_lines.ensures.within, told.1);
      law = lawfully _ _ _ _;
    }
