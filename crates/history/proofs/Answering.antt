-- Which answers are lawful: a refusal that is owed, done, carve and stop; and what happens by them.
use Rattle.std.proofs.Common.{◌≡◌, ℕ, List, ◌∷◌, ◌++◌, reverse, Some, None, Ok, Err, Option, sym, refl, subst}
use Rattle.history.specs.declared.answer.Outcome.TheVariants.{Done, Carve, Stop}
use Rattle.history.specs.declared.call.Call.{Call}
use Rattle.history.specs.declared.call.Call.TheVariants.{Order}
use Rattle.history.specs.declared.fault.ShopFault.{ShopFault}
use Rattle.history.specs.Answers.{Answer, refused}
use Rattle.history.specs.Events.{Event, History, counts_as, happened}
use Rattle.history.specs.Table.{Refuses, refusal}
use Rattle.history.specs.Laws.{Free, Lowest, Granted, ordered, Lawful}
use Rattle.history.proofs.Orders.{carve_answers, stop_answers}

module _ (n : ℕ) (refuses : Refuses) (es : List Event) where
  pub lawful_refused : (call : Call) (f : ShopFault) → refusal n refuses es call ≡ Some f → Lawful n refuses es call (Err f)
  lawful_refused call f e = record { table = sym e; granted = λ g. cc }

  pub lawful_done : (call : Call) → ordered call ≡ None → refusal n refuses es call ≡ None → Lawful n refuses es call (Ok Done)
  lawful_done call o e = record { table = sym e; granted = λ g. subst (λ (x : Option ℕ). Granted x es (Ok Done)) (sym o) refl }

  pub lawful_carve : (m : ℕ) → refusal n refuses es (Order m) ≡ None → Free es m → Lawful n refuses es (Order m) (Ok Carve)
  lawful_carve m e free = record { table = sym e; granted = λ g. carve_answers es m free }

  pub lawful_stop : (m h : ℕ) → refusal n refuses es (Order m) ≡ None → Lowest es m h → Lawful n refuses es (Order m) (Ok (Stop (record { model = h })))
  lawful_stop m h e low = record { table = sym e; granted = λ g. stop_answers es m h low }

-- what an accepted call adds
pub happened_accepted : (h : History) (call : Call) (a : Answer) → refused a ≡ None → happened ((call, a) ∷ h) ≡ reverse (counts_as call) ++ happened h
happened_accepted h call (Ok o) e = refl
happened_accepted h call (Err f) e = cc
