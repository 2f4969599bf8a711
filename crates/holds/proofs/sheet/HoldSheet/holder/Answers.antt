use Rattle.std.proofs.Common.{List, get_or, Some, sym, ap, ◌∙◌}
use Rattle.holds.specs.declared.sheet.Hold.{Hold}
use Rattle.holds.specs.Sheets.{standing}
use Rattle.holds.proofs.Holds.{found, missing, missing_holder}
use Rattle.holds.proofs.sheet.HoldSheet.holder.Goals as goal

pub returns : goal.returns
returns c =
    let hs = standing c.args.self.now in
    let d : Hold = record { model = 0; holder = 0 } in
    ap (λ (xs : List Hold). Some (get_or xs c.in_ok-at.at d).holder) c.holds.ensures
    ∙ sym (found c.args.model hs c.in_ok-at.at d (sym c.in_ok-at.was ∙ c.place_of.ensures)).who

pub returns-in_err-at : goal.returns-in_err-at
returns-in_err-at c =
    let hs = standing c.args.self.now in
    c.from_residual.ensures ∙ sym (missing_holder c.args.model hs (missing c.args.model hs (sym c.in_err-at.was ∙ c.place_of.ensures)))
