-- A hold sheet by the holds that stand on it, and what placing and releasing one comes to.
use Rattle.std.specs.Prelude.{◌≡◌, ℕ, cond, List, [], ◌∷◌, ◌++◌, length, Some, None, Ok, Err, Option, Result, ◌==◌, nat_lt}
use Rattle.holds.specs.declared.fault.HoldFault.{HoldFault}
use Rattle.holds.specs.declared.fault.HoldFault.TheVariants.{OnHold, SheetFull, NotOnHold, AnothersHold}
use Rattle.holds.specs.declared.sheet.Hold.{Hold}
use Rattle.holds.specs.declared.sheet.HoldSheet.{HoldSheet}
use Rattle.holds.specs.Holds.{held, holder_of, released}

-- the holds that stand, oldest first
abbrev pub standing : HoldSheet → List Hold
standing s = s.holds.items

-- what placing a hold is refused with, if with anything: the model is on hold, then 64 holds stand
abbrev pub place_fault : List Hold → ℕ → Option HoldFault
place_fault hs m = cond (held hs m) (Some OnHold) (cond (nat_lt (length hs) 64) None (Some SheetFull))

-- what releasing a hold is refused with, by the holder that the model has: it is not on hold, then it is another's
abbrev pub release_fault : Option ℕ → ℕ → Option HoldFault
release_fault None p = Some NotOnHold
release_fault (Some q) p = cond (q == p) None (Some AnothersHold)

-- a hold by p on m, by the sheet before and after
abbrev pub Places : HoldSheet → ℕ → ℕ → Result (Unit {0}) HoldFault → HoldSheet → Type 0
Places was m p (Ok u) s = (place_fault (standing was) m ≡ None) × (standing s ≡ standing was ++ record { model = m; holder = p } ∷ [])
Places was m p (Err e) s = (place_fault (standing was) m ≡ Some e) × (s ≡ was)

-- a release of m by p, by the sheet before and after
abbrev pub Releases : HoldSheet → ℕ → ℕ → Result (Unit {0}) HoldFault → HoldSheet → Type 0
Releases was m p (Ok u) s = (release_fault (holder_of (standing was) m) p ≡ None) × (standing s ≡ released (standing was) m)
Releases was m p (Err e) s = (release_fault (holder_of (standing was) m) p ≡ Some e) × (s ≡ was)
