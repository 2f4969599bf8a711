-- A book's places are sound memory and what it has is valid, before a call and after; two books whose fields are the same are the same.
use Rattle.std.proofs.Common.{◌≡◌, ℕ, suc, pred, ◌<◌, ◌≤◌, true, List, length, take, None, Ok, Option, Result, sym, ap, ◌∙◌, arith, length-take}
use mathlib.Core.Path.{to_path_p}
use denote.Struct.Props.{props}
use Rattle.rising.specs.Lists.{rising, Sound}
use Rattle.rising.specs.Outcomes.{adding, removing, Adds, Removes}
use Rattle.rising.specs.declared.lent.NotAdded.{NotAdded}
use Rattle.rising.specs.declared.lent.NotThere.{NotThere}
use Rattle.book.specs.declared.derivation.Derivation.{Derivation}
use Rattle.book.specs.declared.refusal.Refusal.{Refusal}
use Rattle.book.specs.declared.kept.Book.{Book}
use Rattle.book.specs.Counts.{models}
use Rattle.book.specs.Order.{by_models}
use Rattle.book.specs.Refusals.{first, add_refusal, remove_refusal}
use Rattle.book.specs.Derivations.{unknown, improper, all_proper, Valid}
use Rattle.book.specs.Books.{standing, count_of, entry_refusal, strike_refusal}
use Rattle.book.proofs.Derivations.{proper_from, all_proper_insert, all_proper_delete}

pub same_book : (a b : Book) → a.count ≡ b.count → a.places ≡ b.places → a.len ≡ b.len → a.stale ≡ b.stale → a ≡ b
same_book a b c p q r =
    let f : IsProp (b.len ≤ 2048) = hlevel props in
    let g : IsProp (rising by_models (take b.len b.places) ≡ true) = hlevel props in
    let h : IsProp (all_proper (models b.count) (take b.len b.places) ≡ true) = hlevel props in
    λ i. record {
      count = c i;
      places = p i;
      len = q i;
      stale = r i;
      few = to_path_p (λ j. q j ≤ 2048) {a = a.few} {b = b.few} (f _ _) i;
      rises = to_path_p (λ j. rising by_models (take (q j) (p j)) ≡ true) {a = a.rises} {b = b.rises} (g _ _) i;
      proper = to_path_p (λ j. all_proper (models (c j)) (take (q j) (p j)) ≡ true) {a = a.proper} {b = b.proper} (h _ _) i;
    }

pub sound_book : (b : Book) → length b.places ≡ 2048 → Sound by_models b.places b.len
sound_book b e = let f = b.few in record { fits = omega arith; rises = b.rises }

pub valid_book : (b : Book) → Valid (models (count_of b)) (standing b)
valid_book b =
    let f = b.few in
    let l = length-take b.len b.places in
    record { some = b.count.some; most = b.count.most; few = omega arith; rises = b.rises; proper = b.proper }

-- what the ordered list told, of a derivation that is otherwise in order, is what the call is owed
pub refused_entry : (b : Book) (d : Derivation) (told : Result (Unit {0}) NotAdded) → length b.places ≡ 2048 → improper (models (count_of b)) d ≡ None → told ≡ adding by_models (standing b) (length b.places) d → entry_refusal (models (count_of b)) (standing b) d ≡ add_refusal told
refused_entry b d told z p e =
    ap (λ (o : Option Refusal). first o (add_refusal (adding by_models (standing b) 2048 d))) p
    ∙ ap (λ (m : ℕ). add_refusal (adding by_models (standing b) m d)) (sym z)
    ∙ ap add_refusal (sym e)

pub refused_strike : (b : Book) (d : Derivation) (told : Result (Unit {0}) NotThere) → unknown (models (count_of b)) d ≡ None → told ≡ removing by_models (standing b) d → strike_refusal (models (count_of b)) (standing b) d ≡ remove_refusal told
refused_strike b d told p e =
    ap (λ (o : Option Refusal). first o (remove_refusal (removing by_models (standing b) d))) p ∙ ap remove_refusal (sym e)

-- the invariants of a book whose list has become longer or shorter
pub record Kept (b : Book) (mem : List Derivation) (n : ℕ) : Type 0 where
  pub few : n ≤ 2048
  pub rises : rising by_models (take n mem) ≡ true
  pub proper : all_proper (models b.count) (take n mem) ≡ true

pub entered : (b : Book) (d : Derivation) (mem : List Derivation) (n : ℕ) → length b.places ≡ 2048 → b.len < length b.places → improper (models b.count) d ≡ None → n ≡ suc b.len → (Sound by_models b.places b.len → Adds by_models b.places b.len d (Ok tt) mem) → Kept b mem n
entered b d mem n z room p e adds =
    let a = adds (sound_book b z) in
    let front : take n mem ≡ take (suc b.len) mem = ap (λ (m : ℕ). take m mem) e in
    record {
      few = omega arith;
      rises = ap (rising by_models) front ∙ a.sound.rises;
      proper = ap (all_proper (models b.count)) (front ∙ a.list) ∙ all_proper_insert (models b.count) (standing b) d (proper_from (models b.count) d p) b.proper;
    }

pub struck : (b : Book) (d : Derivation) (mem : List Derivation) (n : ℕ) → n ≡ pred b.len → Removes by_models b.places b.len d (Ok tt) mem → Kept b mem n
struck b d mem n e a =
    let few = b.few in
    let front : take n mem ≡ take (pred b.len) mem = ap (λ (m : ℕ). take m mem) e in
    record {
      few = omega arith;
      rises = ap (rising by_models) front ∙ a.sound.rises;
      proper = ap (all_proper (models b.count)) (front ∙ a.list) ∙ all_proper_delete (models b.count) (standing b) d b.proper;
    }

-- the same, by what removing promises of sound memory
pub struck_sound : (b : Book) (d : Derivation) (mem : List Derivation) (n : ℕ) → length b.places ≡ 2048 → n ≡ pred b.len → (Sound by_models b.places b.len → Removes by_models b.places b.len d (Ok tt) mem) → Kept b mem n
struck_sound b d mem n z e removes = struck b d mem n e (removes (sound_book b z))
