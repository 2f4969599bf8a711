-- Lawful calls keep the bounds: at most 2,048 derivations stand, and at most 64 models are held.
use Rattle.std.proofs.Common.{◌≡◌, ℕ, suc, ◌<◌, ◌≤◌, true, false, cond, not, eqb, ltb, leb, List, [], ◌∷◌, ◌++◌, reverse, length, None, Ok, Err, ◌∙◌, arith, length-append}
use Rattle.std.proofs.lemmas.Bool.{leb-false, not-false}
use Rattle.rising.proofs.Edits.{length_insert, length_delete}
use Rattle.book.specs.Order.{by_models}
use Rattle.book.specs.Derivations.{known}
use Rattle.holds.specs.declared.sheet.Hold.{Hold}
use Rattle.holds.specs.Holds.{released as without}
use Rattle.history.specs.declared.call.Call.{Call}
use Rattle.history.specs.declared.call.Call.TheVariants.{Enter, Strike, Index, Hold as ToHold, Release, Order}
use Rattle.history.specs.Answers.{Answer, refused}
use Rattle.history.specs.Events.{Event, History, counts_as, events, happened}
use Rattle.history.specs.Standing.{stands, held}
use Rattle.history.specs.Table.{Refuses, refusal, how_many_stand, how_many_held}
use Rattle.history.specs.Laws.{LawfulHistory}
use Rattle.history.specs.Lists.{book_of, sheet_of}
use Rattle.history.specs.Theorems.{LawfulBounds}
use Rattle.history.proofs.Histories.{lawful_newest, lawful_before}
use Rattle.history.proofs.Kept.{Kept, kept_lawful, check_none, book_length, sheet_length}
use Rattle.history.proofs.Owed.{found_stands}

record Few (es : List Event) : Type 0 where
  pub book : length (book_of es) ≤ 2048
  pub sheet : length (sheet_of es) ≤ 64

shorter : (hs : List Hold) (m : ℕ) → length (without hs m) ≤ length hs
shorter [] m = omega arith
shorter (h ∷ hs) m =
    let rest = shorter hs m in
    elim (eqb h.model m) as (λ b. length (cond b hs (h ∷ without hs m)) ≤ suc (length hs)) [ true ↦ omega arith | false ↦ omega arith ]

module _ (n : ℕ) (refuses : Refuses) (es : List Event) (k : Kept n es) (few : Few es) where
  few_granted : (call : Call) → None ≡ refusal n refuses es call → Few (reverse (counts_as call) ++ es)
  unfolding book_of sheet_of
  few_granted (Enter d) e =
      let a = check_none (not (known n d)) _ _ e in
      let b = check_none (eqb d.from d.to) _ _ a.1 in
      let c = check_none (stands es d.from d.to) _ _ b.1 in
      let f = check_none (leb 2048 (how_many_stand n es)) _ _ c.1 in
      let room : how_many_stand n es < 2048 = leb-false 2048 (how_many_stand n es) f.0 in
      let long = length_insert by_models (book_of es) d (found_stands es d ∙ c.0) in
      record { book = omega (arith, book_length n es k); sheet = few.sheet }
  few_granted (Strike d) e =
      let a = check_none (not (known n d)) _ _ e in
      let b = check_none (not (stands es d.from d.to)) _ _ a.1 in
      let short = length_delete by_models (book_of es) d (found_stands es d ∙ not-false (stands es d.from d.to) b.0) in
      let was = few.book in
      record { book = omega arith; sheet = few.sheet }
  few_granted (Index work) e = record { book = few.book; sheet = few.sheet }
  few_granted (ToHold m p) e =
      let a = check_none (not (ltb m n)) _ _ e in
      let b = check_none (held es m) _ _ a.1 in
      let c = check_none (leb 64 (how_many_held n es)) _ _ b.1 in
      let room : how_many_held n es < 64 = leb-false 64 (how_many_held n es) c.0 in
      let hold : Hold = record { model = m; holder = p } in
      record { book = few.book; sheet = omega (arith, sheet_length n es k, length-append (sheet_of es) (hold ∷ [])) }
  few_granted (Release m p) e = let was = few.sheet in record { book = few.book; sheet = omega (arith, shorter (sheet_of es) m) }
  few_granted (Order m) e = few

  few_answered : (call : Call) (a : Answer) → refused a ≡ refusal n refuses es call → Few (reverse (events call a) ++ es)
  few_answered call (Ok o) e = few_granted call e
  few_answered call (Err f) e = few

few_none : Few []
unfolding book_of sheet_of
few_none = record { book = omega arith; sheet = omega arith }

few_lawful : (n : ℕ) (refuses : Refuses) (h : History) → LawfulHistory n refuses h → Few (happened h)
few_lawful n refuses [] l = few_none
few_lawful n refuses (made ∷ h) l =
    let before = lawful_before n refuses h made l in
    few_answered n refuses (happened h) (kept_lawful n refuses h before) (few_lawful n refuses h before) made.0 made.1
    (lawful_newest n refuses h made.0 made.1 l).table

pub lawful_bounds : LawfulBounds
lawful_bounds n refuses h l =
    let k = kept_lawful n refuses h l in
    let f = few_lawful n refuses h l in
    let a = f.book in
    let b = f.sheet in
    record { models = k.within; on_hold = k.below; few_stand = omega (arith, book_length n (happened h) k); few_held = omega (arith, sheet_length n (happened h) k) }
