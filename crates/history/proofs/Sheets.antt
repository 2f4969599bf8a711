-- Lists of holds with no two on one model: the holders, with one more hold placed and with one released.
use Rattle.std.proofs.Common.{◌≡◌, ℕ, true, false, cond, not, eqb, List, [], ◌∷◌, ◌++◌, is_some, Some, None, refl, arith}
use Rattle.std.proofs.lemmas.Bool.{and_parts, not-true}
use Rattle.holds.specs.declared.sheet.Hold.{Hold}
use Rattle.holds.specs.Holds.{held as held_in, holder_of, apart, released as without}
use Rattle.holds.proofs.Holds.{missing_holder}

pub held_in_holder : (hs : List Hold) (m : ℕ) → held_in hs m ≡ is_some (holder_of hs m)
held_in_holder [] m = refl
held_in_holder (h ∷ hs) m = grind (arith, held_in_holder hs m)

pub holder_of_placed : (hs : List Hold) (k : Hold) (m : ℕ) → held_in hs k.model ≡ false → holder_of (hs ++ k ∷ []) m ≡ cond (eqb k.model m) (Some k.holder) (holder_of hs m)
holder_of_placed [] k m e = refl
holder_of_placed (h ∷ hs) k m e = grind (arith, holder_of_placed hs k m)

pub holder_of_released : (hs : List Hold) (x m : ℕ) → apart hs ≡ true → holder_of (without hs x) m ≡ cond (eqb x m) None (holder_of hs m)
holder_of_released [] x m a = grind arith
holder_of_released (h ∷ hs) x m a =
    let p = and_parts (not (held_in hs h.model)) (apart hs) a in
    grind (arith, holder_of_released hs x m p.1, missing_holder h.model hs (not-true (held_in hs h.model) p.0))
