use Rattle.std.proofs.Common.{◌+◌, ◌∷◌, length, take, drop, sym, ap, ◌∙◌, arith, rules, take_all}
use Rattle.std.proofs.lemmas.List.Sums.{position_or_len_is}
use Rattle.std.proofs.lemmas.List.{take_rest, drop_all}
use Rattle.lines.specs.Lines.{lines_of}
use Rattle.lines.proofs.Lines.{is_end, first_cut}
use Rattle.lines.proofs.reading.splitting.first_line.Goals as goal

pub returns-in-Some-clause-first : goal.returns-in-Some-clause-first
returns-in-Some-clause-first c = λ h.
    let bytes = c.args.bytes.now in
    let end = c.in-Some.end in
    first_cut bytes end (position_or_len_is is_end bytes end 0 (search rules) (search rules) (search rules)) h
    ∙ ap (λ xs. take end bytes ∷ lines_of xs) (sym (take_rest bytes (end + 1)))

pub returns-in-None-clause-first : goal.returns-in-None-clause-first
returns-in-None-clause-first c = λ h.
    let bytes = c.args.bytes.now in
    let n = length bytes in
    first_cut bytes n (position_or_len_is is_end bytes n 0 (omega arith) (search rules) (search rules)) h
    ∙ ap (λ xs. xs ∷ lines_of (drop (n + 1) bytes)) (take_all n bytes (omega arith))
    ∙ ap (λ xs. bytes ∷ lines_of xs) (drop_all (n + 1) bytes (omega arith))
