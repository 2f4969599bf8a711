use Rattle.std.proofs.Common.{◌≡◌, ℕ, List, [], length, sym, subst, arith}
use Rattle.std.proofs.lemmas.List.{length-take-le, nil_from_length}
use Rattle.std.proofs.lemmas.Bool.{eqb-true}
use Rattle.search.specs.Marks.{Finds}
use Rattle.search.specs.Walks.{waiting}
use Rattle.search.proofs.Marks.{finds_none}
use Rattle.search.proofs.successors.walk.Walk.find_all.Goals as goal

pub returns-then-not-is_empty : goal.returns-then-not-is_empty
returns-then-not-is_empty c n h = c.visit-self.ensures.finds n (omega (arith, length-take-le c.args.self.now.tail c.args.self.now.found (omega arith)))

pub returns-else-not-is_empty : goal.returns-else-not-is_empty
returns-else-not-is_empty c n h =
    let s = c.args.self.now in
    let none : c.args.models.now ≡ [] = nil_from_length c.args.models.now (eqb-true (length c.args.models.now) 0 (sym c.if-not-is_empty.ensures)) in
    subst (λ (ts : List ℕ). Finds ts s.marks (waiting n s) s.marks (waiting n s)) (sym none) (finds_none s.marks (waiting n s))
