use Rattle.std.proofs.Common.{◌≡◌, ℕ, ◌+◌, Bool, false, List, [], ◌∷◌, get_or, replicate, sym, ap, ◌∙◌, subst, arith}
use Rattle.std.proofs.lemmas.List.{length-take, length-drop}
use Rattle.search.specs.Following.{taken, lists, follows}
use Rattle.search.specs.Marks.{Finds, Found}
use Rattle.search.specs.Walks.{found_in, waiting}
use Rattle.search.proofs.Taken.{follows_within, follows_lists}
use Rattle.search.proofs.Marks.{none_at, found_first, found_next, found_closed}
use Rattle.search.proofs.Reached.{closed_reaches, reaches_outside}
use Rattle.search.proofs.successors.Successors.spread.Goals as goal

pub returns-then-from-self : goal.returns-then-from-self
returns-then-from-self c v =
    let s = c.args.self.now in
    ap (λ (m : List Bool). get_or m v false) c.requires.marks ∙ none_at 1024 v ∙ sym (reaches_outside s c.args.from v c.if-from-self.true)

pub loop-model-init : goal.loop-model-init
loop-model-init c =
    let u = c.args.from in
    let walk = c.find.new.self in
    let row = waiting 0 walk in
    let first : Finds (u ∷ []) (replicate 1024 false) [] walk.marks row =
    subst (λ (m : List Bool). Finds (u ∷ []) m [] walk.marks row) c.requires.marks
    (subst (λ (q : List ℕ). Finds (u ∷ []) c.args.walk.now.marks q walk.marks row) c.requires.found (c.find.ensures 0 (omega arith))) in
    (omega arith, found_first (follows c.args.self.now) u 1024 walk.marks row first)

pub find_all-requires : goal.find_all-requires
find_all-requires c =
    let s = c.args.self.now in
    let w = c.in-Some.model in
    let few = s.few in
    λ v e. omega (arith, (follows_within s w v (follows_lists s w v ∙ ap (λ (ts : List ℕ). lists ts v) (sym c.targets_of.ensures) ∙ e)).1)

pub overflow_add-visited : goal.overflow_add-visited
overflow_add-visited c =
    let walk = c.loop-model.walk in
    let room = walk.room in
    omega (arith, c.in-Some.ensures.0, length-take walk.tail walk.found)

-- find_all adds as many to all that were found as to those that wait behind n + 1, so at least n + 1 are found afterwards
pub loop-model-preserved : goal.loop-model-preserved
loop-model-preserved c =
    let s = c.args.self.now in
    let R = follows s in
    let u = c.args.from in
    let w = c.in-Some.model in
    let n = c.loop-model.visited in
    let walk = c.loop-model.walk in
    let later = c.find_all.new.self in
    let found : Found R u (w ∷ waiting (n + 1) walk) walk.marks = subst (λ (q : List ℕ). Found R u q walk.marks) c.in-Some.ensures.1 c.loop-model.invariant.1 in
    let all = c.find_all.ensures 0 (omega arith) in
    let finds = c.find_all.ensures (n + 1) (omega (arith, c.in-Some.ensures.0)) in
    let row : Finds (taken s w) walk.marks (waiting (n + 1) walk) later.marks (waiting (n + 1) later) =
    subst (λ (ts : List ℕ). Finds ts walk.marks (waiting (n + 1) walk) later.marks (waiting (n + 1) later)) c.targets_of.ensures finds in
    (omega (arith, c.in-Some.ensures.0, all.room, finds.room, length-drop (n + 1) (found_in walk), length-drop (n + 1) (found_in later)), found_next R u w (taken s w) walk.marks later.marks (waiting (n + 1) walk) (waiting (n + 1) later) (follows_lists s w) found row)

pub returns : goal.returns
returns c =
    let s = c.args.self.now in
    let R = follows s in
    let u = c.args.from in
    let m = c.loop-model.walk.marks in
    let empty : waiting c.loop-model.visited c.loop-model.walk ≡ [] = rw c.in_default.is at c.next.ensures in
    let found : Found R u [] m = subst (λ (q : List ℕ). Found R u q m) empty c.loop-model.invariant.1 in
    closed_reaches s u m c.if-from-self.false (found_closed R u m found)
