-- Three texts written one behind another, for which there is room.
use Rattle.std.proofs.Common.{◌≡◌, ℕ, ◌+◌, ◌≤◌, List, ◌++◌, length, Some, None, Option, ap, ◌∙◌, arith, length-append}
use Rattle.text.specs.Numerals.{Wrote}
use Rattle.text.proofs.Placing.{placed_three, length_placed}

pub wrote_three : (d0 d1 d2 d3 u v w : List ℕ) (at end : ℕ) (o : Option ℕ) → length u + (length v + length w) ≤ length d0
    → Wrote d0 0 u (Some at) d1 → Wrote d1 at v (Some end) d2 → Wrote d2 end w o d3 → Wrote d0 0 (u ++ (v ++ w)) o d3
wrote_three d0 d1 d2 d3 u v w at end None h x y z =
    let a : length d1 ≡ length d0 = ap length x.2 ∙ length_placed d0 0 u (omega arith) in
    let e = x.0 in
    let f = y.0 in
    let b : length d2 ≡ length d1 = ap length y.2 ∙ length_placed d1 at v (omega arith) in
    let short = z.0 in
    absurd (omega arith)
wrote_three d0 d1 d2 d3 u v w at end (Some r) h x y z =
    let p = placed_three d0 d1 d2 d3 u v w at end r x.2 x.0 y.2 y.0 z.2 z.0 (omega arith) in
    let l = length-append u (v ++ w) in
    let m = length-append v w in
    let e = p.0 in
    (omega arith, omega arith, p.1)
