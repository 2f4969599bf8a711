use Rattle.std.proofs.Common.{Bool, false, not, ◌&&◌, eqb, get_or, ap, ◌∙◌}
use Rattle.lineage.proofs.Numbers.{count_same}
use Rattle.search.specs.Following.{reaches}
use Rattle.search.proofs.Circles.{counted}
use Rattle.search.proofs.successors.Successors.descendants.Goals as goal

pub returns : goal.returns
returns c =
    let s = c.args.self.now in
    let marks = c.spread.new.walk.marks in
    let model = c.args.model in
    c.count_others.ensures
    ∙ counted s.models (λ v. not (eqb model v) && get_or marks v false)
    ∙ count_same s.models (λ v. not (eqb model v) && get_or marks v false) (λ v. not (eqb model v) && reaches s model v) (λ v l. ap (λ (b : Bool). not (eqb model v) && b) (c.spread.ensures v))
