use Rattle.std.proofs.Common.{◌≡◌, [], ◌∷◌, length, decimal, ap, arith}
use Rattle.text.proofs.Writes.{wrote_three}
use Rattle.text.proofs.writing.write_numbered.Goals as goal

pub returns : goal.returns
returns c =
    let e : c.as_bytes-digits.result.now ≡ decimal c.args.n = cc in
    wrote_three c.args.out.now c.write_bytes.new.out c.write_number.new.out c.write_bytes-2.new.out c.args.word.now (decimal c.args.n) (10 ∷ [])
    c.in_ok-at.at c.in_ok-end.end c.write_bytes-2.result (omega (arith, ap length e)) c.in_ok-at.ensures c.in_ok-end.ensures.wrote c.write_bytes-2.ensures
