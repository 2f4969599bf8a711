use Rattle.std.proofs.Common.{◌≡◌, ◌+◌, ◌*◌, ◌≤◌, [], ◌∷◌, length, ap, ◌∙◌, arith, rules}
use Rattle.book.specs.Counts.{models}
use Rattle.book.specs.Books.{standing, count_of}
use Rattle.book.proofs.Books.{valid_book}
use Rattle.bookfile.specs.Files.{words, first_models, second_models}
use Rattle.text.specs.Placing.{placed}
use Rattle.bookfile.proofs.Written.{Steps, written, reads_back}
use Rattle.bookfile.proofs.writing.write.Goals as goal

pub returns : goal.returns
returns c =
    let b = c.args.book.now in
    let is = c.derivations-derivations.ensures in
    let l : length c.derivations-derivations.result.now ≡ length (standing b) = ap length is in
    let room : 4 + 4 * length (standing b) ≤ length c.args.out.now = omega arith in
    let n : c.models.result ≡ models (count_of b) = c.models.ensures ∙ ap models c.count.ensures in
    let s : Steps (models (count_of b)) (standing b) c.args.out.now c.put_word-models.new.out c.put_word-sizes.new.out c.put_column-firsts.new.out c.put_column.new.out c.put_word-models.result c.put_word-sizes.result c.put_column-firsts.result c.put_column.result = record {
      room = room;
      models = c.put_word-models.ensures.bytes ∙ ap (λ m. placed c.args.out.now 0 (words (m ∷ []))) n;
      models_end = c.put_word-models.ensures.end;
      sizes = c.put_word-sizes.ensures.bytes ∙ ap (λ m. placed c.put_word-models.new.out c.put_word-models.result (words (m ∷ []))) l;
      sizes_end = c.put_word-sizes.ensures.end;
      firsts = c.put_column-firsts.ensures.bytes (λ d. d.from) (λ d n p. search rules) ∙ ap (λ ds. placed c.put_word-sizes.new.out c.put_word-sizes.result (first_models ds)) is;
      firsts_end = c.put_column-firsts.ensures.end ∙ ap (λ k. c.put_word-sizes.result + 2 * k) l;
      seconds = c.put_column.ensures.bytes (λ d. d.to) (λ d n p. search rules) ∙ ap (λ ds. placed c.put_column-firsts.new.out c.put_column-firsts.result (second_models ds)) is;
      seconds_end = c.put_column.ensures.end ∙ ap (λ k. c.put_column-firsts.result + 2 * k) l;
    } in
    record { writes = written s; reads_back = reads_back (models (count_of b)) (standing b) c.args.out.now c.put_column.result c.put_column.new.out (valid_book b) (written s) }
