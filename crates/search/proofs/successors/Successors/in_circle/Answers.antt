use Rattle.std.proofs.Common.{ℕ, List, ap, ◌∙◌}
use Rattle.std.specs.List.{list_any}
use Rattle.search.proofs.Circles.{back, circle_any}
use Rattle.search.proofs.successors.Successors.in_circle.Goals as goal

pub returns : goal.returns
returns c =
    let s = c.args.self.now in
    c.any_leads_back.ensures ∙ ap (λ (ts : List ℕ). list_any (back s c.args.model) ts) c.targets_of.ensures ∙ circle_any s c.args.model
