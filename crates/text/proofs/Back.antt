-- A numeral that was written reads back.
use Rattle.std.proofs.Common.{◌≡◌, ℕ, ◌+◌, ◌-◌, ◌<◌, ◌≤◌, List, ◌++◌, length, drop, Some, None, decimal, Option, sym, ap, ◌∙◌, arith}
use Rattle.text.specs.Numerals.{Begins, Read, Wrote, Back}
use Rattle.text.proofs.Fronts.{begins_same}
use Rattle.text.proofs.Placing.{drop_placed}

-- what reading answers of bytes that begin with a numeral
pub read_of : (bytes : List ℕ) (v : ℕ) (rest : List ℕ) (r : Option (ℕ × ℕ)) → Begins bytes v rest → Read bytes r → r ≡ Some (v, length (decimal v))
read_of bytes v rest None b f = absurd (f v rest b)
read_of bytes v rest (Some p) b f =
    let e : p.0 ≡ v = begins_same bytes p.0 v (drop p.1 bytes) rest f.0 b in
    let k : p.1 ≡ length (decimal v) = f.1 ∙ ap (λ n. length (decimal n)) e in
    ap (λ x. Some (x, p.1)) e ∙ ap (λ x. Some (v, x)) k

pub reads_back : (bytes : List ℕ) (at n : ℕ) (o : Option ℕ) (after : List ℕ) → n < 65536 → Wrote bytes at (decimal n) o after → Back bytes at n o after
reads_back bytes at n None after small w = tt
reads_back bytes at n (Some e) after small w = λ ends r f.
    let l : e ≡ at + length (decimal n) = w.0 in
    let fits : e ≤ length bytes = w.1 in
    let d : drop at after ≡ decimal n ++ drop e bytes
    = ap (drop at) w.2 ∙ drop_placed bytes at (decimal n) (omega arith) ∙ ap (λ k. decimal n ++ drop k bytes) (sym l) in
    let b : Begins (drop at after) n (drop e bytes) = record { small = small; whole = d; ends = ends } in
    let z : length (decimal n) ≡ e - at = omega arith in
    read_of (drop at after) n (drop e bytes) r b f ∙ ap (λ k. Some (n, k)) z
