use Rattle.std.proofs.Common.{◌≤◌, length, refl, arith}
use Rattle.lineage.specs.Book.{surplus}
use Rattle.book.specs.Counts.{models}
use Rattle.book.specs.Derivations.{taken_from}
use Rattle.book.specs.Books.{standing, count_of}
use Rattle.book.proofs.Books.{valid_book}
use Rattle.book.proofs.Taken.{valid_within, valid_surplus}
use Rattle.index.proofs.Building.{rule_short, rule_none}
use Rattle.search.proofs.Meant.{means_book, shows_book}
use Rattle.search.proofs.plain.kind.PlainSearchIndex.build.Goals as goal

pub returns-then-work-lt-WORK : goal.returns-then-work-lt-WORK
returns-then-work-lt-WORK c =
    let b = c.args.book.now in
    record { builds = (rule_short 2048 (models (count_of b)) (taken_from (standing b)) (length c.args.work.now) (omega arith), refl); refuses = refl; shows = refl }

pub returns : goal.returns
returns c =
    let b = c.args.book.now in
    let n = models (count_of b) in
    let R = taken_from (standing b) in
    let few = valid_surplus n (standing b) (valid_book b) in
    let s : surplus n R ≤ 2048 = omega arith in
    record {
      builds = (rule_none 2048 n R (length c.args.work.now) (omega arith) s, means_book c.fill.new.self n R c.fill.ensures.models c.fill.ensures.follows (valid_within n (standing b) (valid_book b)));
      refuses = refl;
      shows = shows_book c.fill.new.self n R c.fill.ensures.models c.fill.ensures.follows;
    }
