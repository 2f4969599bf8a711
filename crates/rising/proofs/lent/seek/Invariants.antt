use Rattle.std.proofs.Common.{◌≡◌, ℕ, ◌-◌, ◌≤◌, length}
use Rattle.rising.specs.Halving.{halve, halving}
use Rattle.rising.proofs.lent.seek.Given as goal

-- the search from here on answers what the whole search answers
abbrev pub invariant-loop-low : goal.invariant-loop-low
invariant-loop-low g l =
    (l.low ≤ l.high) × (l.high ≤ length l.keys)
    × ((turns : ℕ) × (l.high - l.low ≤ turns) × (halve g.K.Ord.cmp turns l.keys l.key l.low l.high ≡ halving g.K.Ord.cmp l.keys l.key))

abbrev pub decreases-loop-low : goal.decreases-loop-low
decreases-loop-low g l = l.high - l.low
