use Rattle.std.proofs.Common.{ℕ, Less, Equal, Greater, arith}
use Rattle.rising.specs.Halving.{middle, halving}
use Rattle.rising.proofs.Search.{read_cmp, on_less, on_greater, on_equal, at_end}
use Rattle.rising.proofs.lent.seek.Goals as goal

pub loop-low-preserved : goal.loop-low-preserved
loop-low-preserved g c =
    let R = g.K.Ord.cmp in
    let keys = c.args.keys.now in
    let mid : ℕ = middle c.loop-low.low c.loop-low.high in
    let e = read_cmp R keys mid c.index-keys-mid.result c.args.key Greater (omega arith) c.index-keys-mid.is c.in-Greater.ensures in
    let inv = c.loop-low.invariant.2 in
    (omega arith, omega arith, on_greater R inv.0 keys c.args.key c.loop-low.low c.loop-low.high (halving R keys c.args.key) (omega arith) inv.1 e inv.2)

pub loop-low-preserved-in-Less : goal.loop-low-preserved-in-Less
loop-low-preserved-in-Less g c =
    let R = g.K.Ord.cmp in
    let keys = c.args.keys.now in
    let mid : ℕ = middle c.loop-low.low c.loop-low.high in
    let e = read_cmp R keys mid c.index-keys-mid.result c.args.key Less (omega arith) c.index-keys-mid.is c.in-Less.ensures in
    let inv = c.loop-low.invariant.2 in
    (omega arith, omega arith, on_less R inv.0 keys c.args.key c.loop-low.low c.loop-low.high (halving R keys c.args.key) (omega arith) inv.1 e inv.2)

pub returns-in-Equal-clause-halving : goal.returns-in-Equal-clause-halving
returns-in-Equal-clause-halving g c =
    let R = g.K.Ord.cmp in
    let keys = c.args.keys.now in
    let mid : ℕ = middle c.loop-low.low c.loop-low.high in
    let e = read_cmp R keys mid c.index-keys-mid.result c.args.key Equal (omega arith) c.index-keys-mid.is c.in-Equal.ensures in
    let inv = c.loop-low.invariant.2 in
    on_equal R inv.0 keys c.args.key c.loop-low.low c.loop-low.high (halving R keys c.args.key) (omega arith) inv.1 e inv.2

pub returns-clause-halving : goal.returns-clause-halving
returns-clause-halving g c =
    let R = g.K.Ord.cmp in
    let inv = c.loop-low.invariant.2 in
    at_end R inv.0 c.args.keys.now c.args.key c.loop-low.low c.loop-low.high (halving R c.args.keys.now c.args.key) (omega arith) inv.2
