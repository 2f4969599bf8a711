use Rattle.std.proofs.Common.{◌≡◌, get_or, take, arith}
use Rattle.std.proofs.lemmas.Bool.{ltb-false, ltb-true, eqb-false}
use Rattle.text.proofs.Fronts.{front_canon, front_length, front_reads}
use Rattle.text.proofs.Computed.{lead_at}
use Rattle.text.proofs.numeral.read_number.Goals as goal
use Rattle.text.proofs.numeral.read_number.Goals.{in_default-via-then-this-lt2, in_default-via-else-this-lt2+in_default-1}

pub number-requires : goal.number-requires
number-requires c = (lead_at c.args.bytes.now c.digits-k.result c.digits-k.ensures).front

pub returns-in_err-number-in_default : goal.returns-in_err-number-in_default
returns-in_err-number-in_default c =
    let f = lead_at c.args.bytes.now c.digits-k.result c.digits-k.ensures in
    rw c.from_residual.ensures (λ v rest b. omega (arith, (front_canon _ _ f v rest b).val, b.small, c.in_err-number-in_default.ensures))

pub returns-in_ok-number-in_default : goal.returns-in_ok-number-in_default
returns-in_ok-number-in_default c =
    let f = lead_at c.args.bytes.now c.digits-k.result c.digits-k.ensures in
    let l = front_length _ _ f in
    let lead : get_or (take c.digits-k.result c.args.bytes.now) 0 0 ≡ 48 → c.digits-k.result ≡ 1 = λ z.
    elim c.in_default-1.branch [
      | in_default-via-then-this-lt2 w ↦ omega (arith, l, ltb-true, ltb-false)
      | in_default-via-else-this-lt2+in_default-1 w ↦ omega (arith, l, z, ltb-false, eqb-false)
    ] in
    front_reads _ _ _ f (omega (arith, l, ltb-false)) lead c.in_ok-number-in_default.ensures (omega arith)

pub returns-in-empty : goal.returns-in-empty
returns-in-empty c v rest b =
    let f = lead_at c.args.bytes.now c.digits-k.result c.digits-k.ensures in
    omega (arith, (front_canon _ _ f v rest b).some, c.in-empty.len_below)

pub returns-in-empty-2 : goal.returns-in-empty-2
returns-in-empty-2 c v rest b =
    let f = lead_at c.args.bytes.now c.digits-k.result c.digits-k.ensures in
    let k = front_canon _ _ f v rest b in
    omega (arith, front_length _ _ f, k.lead, c.in-empty.len_at_least)
