use Rattle.std.proofs.Common.{◌≡◌, ℕ, Bool, false, not, ◌&&◌, eqb, get_or, sym, ap, ◌∙◌, arith}
use Rattle.std.specs.List.{count_by, range_with_len}
use Rattle.search.proofs.Circles.{counted}
use Rattle.search.proofs.successors.descending.count_others.Goals as goal

pub returns : goal.returns
returns c =
    let p : ℕ → Bool = λ v. not (eqb c.args.model v) && get_or c.args.marks.now v false in
    let all : c.loop-v.v ≡ c.args.models = omega arith in
    c.loop-v.invariant.1 ∙ sym (counted c.loop-v.v p) ∙ ap (λ (n : ℕ). count_by p (range_with_len 0 n)) all
