use Rattle.std.proofs.Common.{◌≡◌, true, ap, ◌∙◌}
use Rattle.rising.specs.Lists.{rising}
use Rattle.book.specs.Order.{by_models}
use Rattle.book.specs.Derivations.{taken_from}
use Rattle.book.proofs.Taken.{found_taken}
use Rattle.book.proofs.kept.Book.has.Goals as goal

pub returns : goal.returns
returns c =
    let d = c.args.derivation in
    let ds = c.derivations.result.now in
    let up : rising by_models ds ≡ true = ap (rising by_models) c.derivations.ensures ∙ c.args.self.now.rises in
    c.is_some.ensures ∙ found_taken ds d c.find.result (c.find.ensures.finds up) ∙ ap (λ xs. taken_from xs d.from d.to) c.derivations.ensures
