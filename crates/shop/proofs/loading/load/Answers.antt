use Rattle.std.proofs.Common.{◌≡◌, ℕ, List, [], ◌∷◌, ◌++◌, sym, refl, ap, ◌∙◌, subst, ap₂, append_assoc, rules}
use Rattle.std.proofs.lemmas.Result.{err_from_is_err_and}
use Rattle.book.specs.declared.derivation.Derivation.{Derivation}
use Rattle.book.specs.Counts.{models}
use Rattle.book.specs.Books.{standing, in_turn}
use Rattle.bookfile.specs.Files.{file}
use Rattle.bookfile.specs.Checked.{count_shown, shown, left}
use Rattle.bookfile.proofs.Entering.{first_goes, first_stops, all_stand, none_refused}
use Rattle.history.specs.Events.{History}
use Rattle.history.specs.Table.{Refuses}
use Rattle.history.specs.Lists.{book_of}
use Rattle.shop.specs.Shops.{book_in, Follows}
use Rattle.shop.proofs.Loads.{entries_more, entry_goes, entry_stops}
use Rattle.shop.proofs.loading.load.Goals as goal

pub loop-derivation-init : goal.loop-derivation-init
unfolding book_of
loop-derivation-init g c =
    let f = c.open-shop.ensures.follows in
    let all : left c.into_iter-derivation-iterator.result ≡ shown c.args.file.now = search rules in
    let n : models c.in_ok-count.count ≡ count_shown c.args.file.now = c.in_ok-count.ensures.1 ∙ c.models.ensures in (
      all,
      subst (λ (x : ℕ). Follows g.I.Index.meaning g.I.Index.refuses x (g.I.Index.refuses c.open-shop.result.index) [] c.open-shop.result) n
          (subst (λ (o : Refuses). Follows g.I.Index.meaning g.I.Index.refuses (models c.in_ok-count.count) o [] c.open-shop.result) (sym f.rule) f),
      refl,
      ap₂ (in_turn (count_shown c.args.file.now)) f.book all,
    )

pub returns-in_err-enter : goal.returns-in_err-enter
returns-in_err-enter g c =
    let p = err_from_is_err_and c.from_residual-in_err-enter.result c.from_residual-in_err-enter.ensures.1 in
    let n = count_shown c.args.file.now in
    let l = c.loop-derivation in
    let d = c.in-Some.derivation in
    let stop = entry_stops d l.invariant.1 c.in_err-enter.field-0.0 c.in_err-enter.ensures.law in
    let stops = sym l.invariant.3 ∙ ap (in_turn n (standing (book_in l.shop))) c.in-Some.ensures.steps ∙ first_stops n (standing (book_in l.shop)) d (left c.next.new.self) stop.0 stop.1 in
    let none = none_refused n (shown c.args.file.now) stop.0 stops in
    rw p.1 (record { follows = none; unbuilt = tt; bytes = none })

pub loop-derivation-preserved : goal.loop-derivation-preserved
loop-derivation-preserved g c =
    let n = count_shown c.args.file.now in
    let l = c.loop-derivation in
    let d = c.in-Some.derivation in
    let s = l.shop in
    let t = c.enter.new.self in
    let more = left c.next.new.self in
    let owed = g.I.Index.refuses c.open-shop.result.index in
    let step = c.in-Some.ensures.steps in
    let keeps = c.in_ok-enter.ensures.law in
    let goes = entry_goes d l.invariant.1 keeps in (
      append_assoc l.yielded (d ∷ []) more ∙ ap (λ xs. l.yielded ++ xs) (sym step) ∙ l.invariant.0,
      subst (λ (x : History). Follows g.I.Index.meaning g.I.Index.refuses n owed x t) (sym (entries_more l.yielded d)) (keeps.follows n owed _ l.invariant.1),
      c.in_ok-enter.ensures.index ∙ l.invariant.2,
      ap (λ (ds : List Derivation). in_turn n ds more) goes.1 ∙ sym (first_goes n (standing (book_in s)) d more goes.0)
          ∙ ap (in_turn n (standing (book_in s))) (sym step) ∙ l.invariant.3,
    )

pub returns-clause-bytes : goal.returns-clause-bytes
returns-clause-bytes g c = λ bytes v e.
    let n = count_shown c.args.file.now in
    let l = c.loop-derivation in
    let ends = sym l.invariant.3 ∙ ap (in_turn n (standing (book_in l.shop))) c.in-None.ensures.steps.0 in
    ap₂ (λ (m : ℕ) (ds : List Derivation). file m ds) l.invariant.1.count (all_stand n (standing (book_in l.shop)) (shown c.args.file.now) ends v) ∙ sym e
