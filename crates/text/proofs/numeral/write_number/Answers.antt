use Rattle.std.proofs.Common.{ℕ, List, decimal, ◌≡◌, subst, arith}
use Rattle.text.specs.Numerals.{Wrote}
use Rattle.text.proofs.Back.{reads_back}
use Rattle.text.proofs.numeral.write_number.Goals as goal

pub returns-clause-back : goal.returns-clause-back
returns-clause-back c =
    let e : c.as_bytes.result.now ≡ decimal c.args.n = grind arith in
    let P : List ℕ → Type 0 = λ text. Wrote c.args.out.now c.args.at text c.write_bytes.result c.write_bytes.new.out in
    reads_back c.args.out.now c.args.at c.args.n c.write_bytes.result c.write_bytes.new.out (omega arith) (subst P e c.write_bytes.ensures)
