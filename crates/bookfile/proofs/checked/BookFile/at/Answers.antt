use Rattle.std.proofs.Common.{sym, ◌∙◌, arith}
use Rattle.bookfile.proofs.Walking.{none_at, paired_at, word_at}
use Rattle.bookfile.proofs.checked.BookFile.at.Goals as goal

pub returns-in_err-from : goal.returns-in_err-from
returns-in_err-from c =
    let past = c.in_err-from.ensures.lookup.3 in
    let many = c.as_chunks.ensures.front_len in
    c.from_residual.ensures ∙ none_at c.args.self.now.firsts.now c.args.self.now.seconds.now c.args.place (omega arith)

pub returns-in_err-to : goal.returns-in_err-to
returns-in_err-to c =
    let past = c.in_err-to.ensures.lookup.3 in
    let many = c.as_chunks-2.ensures.front_len in
    c.from_residual-in_err-to.ensures ∙ none_at c.args.self.now.firsts.now c.args.self.now.seconds.now c.args.place (omega arith)

pub returns : goal.returns
returns c =
    let from = c.in_ok-from.ensures.lookup in
    let to = c.in_ok-to.ensures.lookup in
    sym (paired_at _ _ c.args.place _ _
    (word_at c.args.self.now.firsts.now _ c.in_ok-from.from.now c.args.place _ c.as_chunks.ensures.front from.3.0 from.1 c.from_le_bytes.ensures)
    (word_at c.args.self.now.seconds.now _ c.in_ok-to.to.now c.args.place _ c.as_chunks-2.ensures.front to.3.0 to.1 c.from_le_bytes-2.ensures))
