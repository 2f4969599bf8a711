use Rattle.std.proofs.Common.{ℕ, ◌+◌, ◌<◌, ◌≤◌, Bool, List, [], ◌∷◌, length, get_or, take, drop, sym, refl, ap, subst, arith}
use Rattle.std.proofs.lemmas.List.{take_more}
use Rattle.search.specs.Marks.{unmarked, Finds}
use Rattle.search.proofs.Taken.{lists_at}
use Rattle.search.proofs.Marks.{unmarked_set, finds_none, finds_old, finds_new, finds_more, row_more}
use Rattle.search.proofs.successors.walk.visit.Goals as goal
use Rattle.search.proofs.successors.walk.visit.Goals.{then-not-marks-place, else-not-marks-place}

pub bounds-marks-place : goal.bounds-marks-place
bounds-marks-place c = c.requires.known _ (lists_at c.args.models.now c.loop-model.model-index _ c.loop-model-test.true refl)

pub bounds-marks-place-then-not-marks-place : goal.bounds-marks-place-then-not-marks-place
bounds-marks-place-then-not-marks-place c = c.requires.known _ (lists_at c.args.models.now c.loop-model.model-index _ c.loop-model-test.true refl)

pub bounds-found-end : goal.bounds-found-end
bounds-found-end c =
    let place = get_or c.args.models.now c.loop-model.model-index 0 in
    let inside : place < 1024 = c.requires.known place (lists_at c.args.models.now c.loop-model.model-index place c.loop-model-test.true refl) in
    omega (arith, unmarked_set c.loop-model.marks place (omega arith) c.if-not-marks-place.true, c.loop-model.invariant.1, c.requires.room)

pub loop-model-init : goal.loop-model-init
loop-model-init c = (omega arith, refl, λ h l. finds_none _ _)

pub loop-model-preserved : goal.loop-model-preserved
loop-model-preserved c =
    let ts = c.args.models.now in
    let i = c.loop-model.model-index in
    let x = get_or ts i 0 in
    let was = c.args.marks.now in
    let from : ℕ → List ℕ = λ h. drop h (take c.args.tail c.args.found.now) in
    let inside : x < 1024 = c.requires.known x (lists_at ts i x c.loop-model-test.true refl) in
    let more : (h : ℕ) → h ≤ c.args.tail → (m : List Bool) (q : List ℕ) → Finds (x ∷ []) c.loop-model.marks (drop h (take c.loop-model.end c.loop-model.found)) m q → Finds (take (i + 1) ts) was (from h) m q
    = λ h l m q f. subst (λ (xs : List ℕ). Finds xs was (from h) m q) (sym (take_more ts i 0 c.loop-model-test.true)) (finds_more (take i ts) x _ _ _ _ _ _ (c.loop-model.invariant.2 h l) f) in
    elim c.if-not-marks-place.branch [
      | then-not-marks-place w ↦
          (let new = w.if-not-marks-place.true in
          let one = unmarked_set c.loop-model.marks x (omega arith) new in
          let room : c.loop-model.end < length c.loop-model.found = omega (arith, one, c.loop-model.invariant.1, c.requires.room) in (
            omega (arith, w.end-is, c.loop-model.invariant.0),
            omega (arith, w.end-is, ap unmarked w.marks-is, one, c.loop-model.invariant.1),
            λ h l. more h l _ _ (rw (w.end-is, w.marks-is, w.found-is, row_more c.loop-model.found h c.loop-model.end x (omega arith) room) (finds_new x c.loop-model.marks _ (omega arith) new)),
          ))
      | else-not-marks-place w ↦ (
        omega (arith, w.end-is, c.loop-model.invariant.0),
        omega (arith, w.end-is, ap unmarked w.marks-is, c.loop-model.invariant.1),
        λ h l. more h l _ _ (rw (w.end-is, w.marks-is, w.found-is) (finds_old x c.loop-model.marks _ w.if-not-marks-place.false)),
      )
    ]
