use Rattle.std.proofs.Common.{sym, refl, ap, ◌∙◌}
use Rattle.holds.specs.declared.sheet.Hold.{Hold}
use Rattle.holds.specs.Holds.{apart}
use Rattle.holds.specs.Sheets.{standing}
use Rattle.holds.proofs.Holds.{missing, found, missing_fault, others_fault, own_fault, apart_released}
use Rattle.holds.proofs.sheet.HoldSheet.release.Goals as goal

pub returns-in_default : goal.returns-in_default
returns-in_default c =
    let hs = standing c.args.self.now in
    (missing_fault c.args.model hs c.args.holder (missing c.args.model hs (sym c.in_default.is ∙ c.place_of.ensures)), refl)

pub returns-then-holds-at : goal.returns-then-holds-at
returns-then-holds-at c =
    let hs = standing c.args.self.now in
    let d : Hold = record { model = 0; holder = 0 } in
    (others_fault c.args.model hs c.args.holder c.in-Some.at d (found c.args.model hs c.in-Some.at d c.in-Some.ensures) (rw c.holds.ensures at c.if-holds-at.true), refl)

pub invariant_of-self-clause-apart : goal.invariant_of-self-clause-apart
invariant_of-self-clause-apart c =
    let hs = standing c.args.self.now in
    let d : Hold = record { model = 0; holder = 0 } in
    ap apart (c.remove.ensures.items ∙ sym (found c.args.model hs c.in-Some.at d c.in-Some.ensures).rest) ∙ apart_released hs c.args.model c.args.self.now.apart

pub returns : goal.returns
returns c =
    let hs = standing c.args.self.now in
    let d : Hold = record { model = 0; holder = 0 } in
    let t = found c.args.model hs c.in-Some.at d c.in-Some.ensures in
    (own_fault c.args.model hs c.args.holder c.in-Some.at d t (rw c.holds.ensures at c.if-holds-at.false), c.remove.ensures.items ∙ sym t.rest)
