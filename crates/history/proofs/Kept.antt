-- What lawful calls keep: only models below the count stand in derivations and are held, and the sheet has each held model once; so the lists that the shop keeps say what the events say.
use Rattle.std.proofs.Common.{◌≡◌, ℕ, ◌<◌, Bool, true, false, cond, not, eqb, ltb, List, [], ◌∷◌, ◌++◌, reverse, length, is_some, Some, None, Ok, Err, Option, sym, refl, ap, ◌∙◌, inl, inr, arith}
use mathlib.Core.Path.{fun_ext}
use Rattle.std.proofs.lemmas.Bool.{or_cases, and_parts, not-false, eqb-true, ltb-true}
use Rattle.lineage.specs.Finite.{Within, count}
use Rattle.lineage.proofs.Numbers.{total_same, count_same}
use Rattle.book.specs.declared.derivation.Derivation.{Derivation}
use Rattle.book.specs.Derivations.{known, taken_from}
use Rattle.holds.specs.declared.sheet.Hold.{Hold}
use Rattle.holds.specs.Holds.{held as held_in, holder_of, apart}
use Rattle.holds.proofs.Holds.{apart_placed, apart_released}
use Rattle.history.specs.declared.call.Call.{Call}
use Rattle.history.specs.declared.call.Call.TheVariants.{Enter, Strike, Index, Hold as ToHold, Release, Order}
use Rattle.history.specs.declared.fault.ShopFault.{ShopFault}
use Rattle.history.specs.Answers.{Answer, refused}
use Rattle.history.specs.Events.{Event, History, entered, struck, indexed, placed, released, counts_as, events, happened}
use Rattle.history.specs.Standing.{is, stands, held, holder}
use Rattle.history.specs.Table.{Refuses, check, refusal, how_many_stand, how_many_held}
use Rattle.history.specs.Laws.{LawfulHistory}
use Rattle.history.specs.Lists.{book_of, sheet_of}
use Rattle.history.proofs.Last.{held_holder}
use Rattle.history.proofs.Steps.{stands_entered, stands_struck, holder_placed, holder_released, held_placed, held_released}
use Rattle.history.proofs.Books.{book_rises, book_stands}
use Rattle.history.proofs.Sheets.{held_in_holder, holder_of_placed, holder_of_released}
use Rattle.history.proofs.Lengths.{length_pairs, length_holds}
use Rattle.history.proofs.Histories.{lawful_newest, lawful_before}

pub record Kept (n : ℕ) (es : List Event) : Type 0 where
  pub within : Within n (stands es)
  pub below : (m : ℕ) → held es m ≡ true → m < n
  pub once : apart (sheet_of es) ≡ true
  pub holders : (m : ℕ) → holder_of (sheet_of es) m ≡ holder es m

-- the book as a test
pub book_test : (es : List Event) → taken_from (book_of es) ≡ stands es
book_test es = fun_ext (λ u. fun_ext (λ v. book_stands es u v))

module _ (n : ℕ) (es : List Event) (kept : Kept n es) where
  pub sheet_held : (m : ℕ) → held_in (sheet_of es) m ≡ held es m
  sheet_held m = held_in_holder (sheet_of es) m ∙ ap is_some (kept.holders m) ∙ sym (held_holder es m)

  pub book_length : length (book_of es) ≡ how_many_stand n es
  unfolding how_many_stand
  book_length =
      length_pairs n (book_of es) (book_rises es) (λ u v t. kept.within u v (sym (book_stands es u v) ∙ t))
      ∙ total_same n (λ u. count n (taken_from (book_of es) u)) (λ u. count n (stands es u)) (λ u l. count_same n (taken_from (book_of es) u) (stands es u) (λ v k. book_stands es u v))

  pub sheet_length : length (sheet_of es) ≡ how_many_held n es
  unfolding how_many_held
  sheet_length =
      length_holds n (sheet_of es) kept.once (λ m t. kept.below m (sym (sheet_held m) ∙ t))
      ∙ count_same n (held_in (sheet_of es)) (held es) (λ m k. sheet_held m)

pub kept_none : (n : ℕ) → Kept n []
unfolding stands held holder sheet_of
kept_none n = record { within = λ u v t. cc; below = λ m t. cc; once = refl; holders = λ m. refl }

module _ (n : ℕ) (es : List Event) (k : Kept n es) where
  pub kept_entered : (d : Derivation) → known n d ≡ true → Kept n (entered d ∷ es)
  unfolding held holder sheet_of
  kept_entered d low = record {
    within = λ u v t. elim (or_cases (is d u v) (stands es u v) (sym (stands_entered es u v d) ∙ t)) [
      | inl e ↦ (
          let p = and_parts (eqb d.from u) (eqb d.to v) e in
          let q = and_parts (ltb d.from n) (ltb d.to n) low in
          (omega (arith, eqb-true d.from u p.0, ltb-true d.from n q.0), omega (arith, eqb-true d.to v p.1, ltb-true d.to n q.1))
          )
      | inr e ↦ k.within u v e
    ];
    below = k.below;
    once = k.once;
    holders = k.holders;
  }

  pub kept_struck : (d : Derivation) → Kept n (struck d ∷ es)
  unfolding held holder sheet_of
  kept_struck d = record {
    within = λ u v t. k.within u v (and_parts (not (is d u v)) (stands es u v) (sym (stands_struck es u v d) ∙ t)).1;
    below = k.below;
    once = k.once;
    holders = k.holders;
  }

  pub kept_indexed : Kept n (indexed ∷ es)
  unfolding stands held holder sheet_of
  kept_indexed = record { within = k.within; below = k.below; once = k.once; holders = k.holders }

  pub kept_placed : (x p : ℕ) → x < n → held es x ≡ false → Kept n (placed x p ∷ es)
  unfolding stands sheet_of
  kept_placed x p low e =
      let hold : Hold = record { model = x; holder = p } in
      let new : held_in (sheet_of es) x ≡ false = sheet_held n es k x ∙ e in
      record {
        within = k.within;
        below = λ m t. elim (or_cases (eqb x m) (held es m) (sym (held_placed es m x p) ∙ t)) [ inl q ↦ omega (arith, eqb-true x m q) | inr q ↦ k.below m q ];
        once = apart_placed (sheet_of es) hold new k.once;
        holders = λ m. holder_of_placed (sheet_of es) hold m new ∙ ap (λ o. cond (eqb x m) (Some p) o) (k.holders m) ∙ sym (holder_placed es m x p);
      }

  pub kept_released : (x : ℕ) → Kept n (released x ∷ es)
  unfolding stands sheet_of
  kept_released x = record {
    within = k.within;
    below = λ m t. k.below m (and_parts (not (eqb x m)) (held es m) (sym (held_released es m x) ∙ t)).1;
    once = apart_released (sheet_of es) x k.once;
    holders = λ m. holder_of_released (sheet_of es) x m k.once ∙ ap (λ o. cond (eqb x m) None o) (k.holders m) ∙ sym (holder_released es m x);
  }

-- a check that did not apply, and what came after it
pub check_none : (b : Bool) (f : ShopFault) (next : Option ShopFault) → None ≡ check b f next → (b ≡ false) × (None ≡ next)
check_none true f next e = cc
check_none false f next e = (refl, e)

module _ (n : ℕ) (refuses : Refuses) (es : List Event) (k : Kept n es) where
  kept_granted : (call : Call) → None ≡ refusal n refuses es call → Kept n (reverse (counts_as call) ++ es)
  kept_granted (Enter d) e = kept_entered n es k d (not-false (known n d) (check_none (not (known n d)) _ _ e).0)
  kept_granted (Strike d) e = kept_struck n es k d
  kept_granted (Index work) e = kept_indexed n es k
  kept_granted (ToHold m p) e =
      let a = check_none (not (ltb m n)) _ _ e in
      let b = check_none (held es m) _ _ a.1 in
      kept_placed n es k m p (ltb-true m n (not-false (ltb m n) a.0)) b.0
  kept_granted (Release m p) e = kept_released n es k m
  kept_granted (Order m) e = k

  kept_answered : (call : Call) (a : Answer) → refused a ≡ refusal n refuses es call → Kept n (reverse (events call a) ++ es)
  kept_answered call (Ok o) e = kept_granted call e
  kept_answered call (Err f) e = k

-- what happened in a lawful history
pub kept_lawful : (n : ℕ) (refuses : Refuses) (h : History) → LawfulHistory n refuses h → Kept n (happened h)
kept_lawful n refuses [] l = kept_none n
kept_lawful n refuses (made ∷ h) l =
    kept_answered n refuses (happened h) (kept_lawful n refuses h (lawful_before n refuses h made l)) made.0 made.1
    (lawful_newest n refuses h made.0 made.1 l).table
