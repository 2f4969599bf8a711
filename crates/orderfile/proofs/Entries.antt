-- The entries of a valid book are a lawful history.
use Rattle.std.proofs.Common.{◌≡◌, ℕ, List, [], ◌∷◌, map, reverse, Some, None, Ok, Option, Result, refl, ap, ◌∙◌, arith}
use mathlib.Core.List.{reverse_aux}
use Rattle.std.specs.Option.{option_map}
use Rattle.std.proofs.lemmas.List.{reverse-reverse}
use Rattle.rising.specs.Lists.{insert}
use Rattle.book.specs.declared.derivation.Derivation.{Derivation}
use Rattle.book.specs.declared.refusal.Refusal.{Refusal}
use Rattle.book.specs.Order.{by_models}
use Rattle.book.specs.Refusals.{unless}
use Rattle.book.specs.Derivations.{Valid}
use Rattle.book.specs.Books.{entry_refusal, in_turn}
use Rattle.book.proofs.Turns.{valid_turns}
use Rattle.history.specs.declared.answer.Outcome.TheVariants.{Done}
use Rattle.history.specs.Answers.{Answer}
use Rattle.history.specs.declared.call.Call.{Call}
use Rattle.history.specs.declared.call.Call.TheVariants.{Enter}
use Rattle.history.specs.declared.fault.ShopFault.TheVariants.{Book as OfBook}
use Rattle.history.specs.Events.{History, happened}
use Rattle.history.specs.Table.{Refuses}
use Rattle.history.specs.Laws.{LawfulHistory}
use Rattle.history.specs.Lists.{book_of}
use Rattle.history.specs.Theorems.{calls}
use Rattle.history.proofs.Steps.{book_none, book_entered}
use Rattle.history.proofs.Histories.{lawful_none, lawful_more}
use Rattle.history.proofs.Kept.{kept_lawful}
use Rattle.history.proofs.Owed.{entry_owed}
use Rattle.history.proofs.Answering.{lawful_done}
use Rattle.shop.specs.Loads.{entries}

goes_on : (o : Option Refusal) (next : Result (List Derivation) Refusal) (ds : List Derivation) → unless o next ≡ Ok ds → (o ≡ None) × (next ≡ Ok ds)
goes_on None next ds e = (refl, e)
goes_on (Some r) next ds e = absurd (let z : ◌≡◌ {A = ℕ} 0 1 = cc in omega arith)

abbrev made : Derivation → Call × Answer
made d = (Enter d, Ok Done)

module _ (n : ℕ) (refuses : Refuses) where
  lawful_entries_onto : (es : List Derivation) (h : History) (ds : List Derivation) → LawfulHistory n refuses h → in_turn n (book_of (happened h)) es ≡ Ok ds → LawfulHistory n refuses (reverse_aux (map made es) h)
  lawful_entries_onto [] h ds l e = l
  lawful_entries_onto (d ∷ es) h ds l e =
      let p = goes_on (entry_refusal n (book_of (happened h)) d) (in_turn n (insert by_models (book_of (happened h)) d) es) ds e in
      let one = lawful_done n refuses (happened h) (Enter d) refl (entry_owed n refuses (happened h) (kept_lawful n refuses h l) d ∙ ap (option_map OfBook) p.0) in
      lawful_entries_onto es (made d ∷ h) ds (lawful_more n refuses h (Enter d) (Ok Done) one l)
      (ap (λ (bs : List Derivation). in_turn n bs es) (book_entered (happened h) d) ∙ p.1)

  pub lawful_entries : (ds : List Derivation) → Valid n ds → LawfulHistory n refuses (entries ds)
  lawful_entries ds v = lawful_entries_onto ds [] ds (lawful_none n refuses) (ap (λ (bs : List Derivation). in_turn n bs ds) book_none ∙ valid_turns n ds v)

calls_onto : (ds : List Derivation) (h : History) → calls (reverse_aux (map made ds) h) ≡ reverse_aux (map Enter ds) (calls h)
calls_onto [] h = refl
calls_onto (d ∷ ds) h = calls_onto ds (made d ∷ h)

-- their calls, in the order in which they were made
pub entries_calls : (ds : List Derivation) → reverse (calls (entries ds)) ≡ map Enter ds
entries_calls ds = ap reverse (calls_onto ds []) ∙ reverse-reverse (map Enter ds)
