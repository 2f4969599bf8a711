-- The table: what a call is refused with, after the events so far.
use Rattle.std.specs.Prelude.{ℕ, Bool, false, cond, not, List, Some, None, Option, ◌==◌, nat_le, nat_lt}
use Rattle.std.specs.Option.{option_map}
use Rattle.lineage.specs.Finite.{total, count}
use Rattle.book.specs.declared.refusal.Refusal.TheVariants.{NoSuchModel, FromItself, StandsAlready, BookFull, DoesNotStand}
use Rattle.book.specs.Derivations.{known}
use Rattle.index.specs.declared.fault.IndexFault.{IndexFault}
use Rattle.holds.specs.declared.fault.HoldFault.TheVariants.{OnHold, SheetFull, NotOnHold, AnothersHold}
use Rattle.history.specs.declared.call.Call.{Call}
use Rattle.history.specs.declared.call.Call.TheVariants.{Enter, Strike, Index, Hold, Release, Order}
use Rattle.history.specs.declared.fault.ShopFault.{ShopFault}
use Rattle.history.specs.declared.fault.ShopFault.TheVariants.{Book as OfBook, Index as OfIndex, Hold as OfHold, Stale}
use Rattle.history.specs.Events.{Event}
use Rattle.history.specs.Standing.{stands, held, holder, current}

-- what an index refuses an indexing with, by the count of models, the test of what stands, and the length of the work space
abbrev pub Refuses : Type 0
Refuses = ℕ → (ℕ → ℕ → Bool) → ℕ → Option IndexFault

-- how many derivations stand between models below n
unfoldable pub how_many_stand : ℕ → List Event → ℕ
how_many_stand n es = total n (λ u. count n (stands es u))

-- how many models below n are held
unfoldable pub how_many_held : ℕ → List Event → ℕ
how_many_held n es = count n (held es)

-- whether a hold is another's than p's
abbrev pub anothers : Option ℕ → ℕ → Bool
anothers None p = false
anothers (Some q) p = not (q == p)

-- one check, and what comes after it
abbrev pub check : Bool → ShopFault → Option ShopFault → Option ShopFault
check applies fault next = cond applies (Some fault) next

-- what a call is refused with, if with anything: the first check that applies
abbrev pub refusal : ℕ → Refuses → List Event → Call → Option ShopFault
refusal n refuses es (Enter d) =
    check (not (known n d)) (OfBook NoSuchModel)
    (check (d.from == d.to) (OfBook FromItself)
    (check (stands es d.from d.to) (OfBook StandsAlready)
    (check (nat_le 2048 (how_many_stand n es)) (OfBook BookFull) None)))
refusal n refuses es (Strike d) =
    check (not (known n d)) (OfBook NoSuchModel)
    (check (not (stands es d.from d.to)) (OfBook DoesNotStand) None)
refusal n refuses es (Index work) = option_map OfIndex (refuses n (stands es) work)
refusal n refuses es (Hold m p) =
    check (not (nat_lt m n)) (OfBook NoSuchModel)
    (check (held es m) (OfHold OnHold)
    (check (nat_le 64 (how_many_held n es)) (OfHold SheetFull) None))
refusal n refuses es (Release m p) =
    check (not (nat_lt m n)) (OfBook NoSuchModel)
    (check (not (held es m)) (OfHold NotOnHold)
    (check (anothers (holder es m) p) (OfHold AnothersHold) None))
refusal n refuses es (Order m) =
    check (not (nat_lt m n)) (OfBook NoSuchModel)
    (check (not (current es)) Stale None)
