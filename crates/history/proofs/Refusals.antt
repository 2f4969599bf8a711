-- A refused call and an order change nothing.
use Rattle.std.proofs.Common.{◌≡◌, ℕ, ◌∷◌, Some, Ok, Err, refl}
use Rattle.history.specs.declared.call.Call.{Call}
use Rattle.history.specs.declared.call.Call.TheVariants.{Order}
use Rattle.history.specs.declared.fault.ShopFault.{ShopFault}
use Rattle.history.specs.Answers.{Answer, refused}
use Rattle.history.specs.Events.{History, happened}
use Rattle.history.specs.Theorems.{RefusedChangesNothing}

by_a_refusal : (h : History) (call : Call) (a : Answer) (f : ShopFault) → refused a ≡ Some f → happened ((call, a) ∷ h) ≡ happened h
by_a_refusal h call (Ok o) f e = cc
by_a_refusal h call (Err g) f e = refl

by_an_order : (h : History) (m : ℕ) (a : Answer) → happened ((Order m, a) ∷ h) ≡ happened h
by_an_order h m (Ok o) = refl
by_an_order h m (Err f) = refl

pub refused_changes_nothing : RefusedChangesNothing
refused_changes_nothing = record { refused = by_a_refusal; order = by_an_order }
