use Rattle.std.proofs.Common.{◌≡◌, ℕ, ◌<◌, ◌≢◌, false, Option, length, sym, refl, ap, ◌∙◌, arith}
use Rattle.std.specs.Option.{is_some}
use Rattle.std.proofs.lemmas.Bool.{cond-true, eqb-true, eqb-false}
use Rattle.holds.specs.Holds.{held, apart}
use Rattle.holds.specs.Sheets.{standing}
use Rattle.holds.proofs.Holds.{held_position, full_fault, free_fault, apart_placed}
use Rattle.holds.proofs.sheet.HoldSheet.place.Goals as goal

pub returns-then-is_some : goal.returns-then-is_some
returns-then-is_some c =
    let hs = standing c.args.self.now in
    (cond-true _ _ _ (sym (held_position c.args.model hs) ∙ ap (λ (o : Option ℕ). is_some o) (sym c.place_of.ensures) ∙ sym c.is_some.ensures ∙ c.if-is_some.true), refl)

pub returns-then-is_full : goal.returns-then-is_full
returns-then-is_full c =
    let hs = standing c.args.self.now in
    let free : held hs c.args.model ≡ false = sym (held_position c.args.model hs) ∙ ap (λ (o : Option ℕ). is_some o) (sym c.place_of.ensures) ∙ sym c.is_some.ensures ∙ c.if-is_some.false in
    (full_fault c.args.model hs free (eqb-true (length hs) 64 (sym c.is_full.ensures.value ∙ c.if-is_full.true)), refl)

pub invariant_of-self-clause-apart : goal.invariant_of-self-clause-apart
invariant_of-self-clause-apart c =
    let hs = standing c.args.self.now in
    let free : held hs c.args.model ≡ false = sym (held_position c.args.model hs) ∙ ap (λ (o : Option ℕ). is_some o) (sym c.place_of.ensures) ∙ sym c.is_some.ensures ∙ c.if-is_some.false in
    ap apart c.push.ensures.items ∙ apart_placed hs (record { model = c.args.model; holder = c.args.holder }) free c.args.self.now.apart

pub returns : goal.returns
returns c =
    let hs = standing c.args.self.now in
    let free : held hs c.args.model ≡ false = sym (held_position c.args.model hs) ∙ ap (λ (o : Option ℕ). is_some o) (sym c.place_of.ensures) ∙ sym c.is_some.ensures ∙ c.if-is_some.false in
    let other : length hs ≢ 64 = eqb-false (length hs) 64 (sym c.is_full.ensures.value ∙ c.if-is_full.false) in
    let fits = c.is_full.ensures.fits in
    let room : length hs < 64 = omega arith in
    (free_fault c.args.model hs free room, c.push.ensures.items)
