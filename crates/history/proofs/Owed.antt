-- What the book and the sheet refuse, of the lists that the events make, is what the table says; and what an index of that book tells of held models.
use Rattle.std.proofs.Common.{◌≡◌, ℕ, ◌<◌, Bool, true, cond, not, ◌&&◌, eqb, ltb, leb, List, is_some, Some, None, Ok, Err, Decides, Option, sym, refl, ap, ◌∙◌, arith}
use Rattle.std.specs.Option.{option_map}
use Rattle.std.proofs.lemmas.Bool.{and_parts, and_from}
use Rattle.std.proofs.lemmas.Bool.Decides.{nat_tests}
use Rattle.lineage.proofs.Numbers.{same_tests}
use Rattle.rising.specs.Lists.{rising, stands as stands_in}
use Rattle.rising.specs.declared.lent.NotAdded.TheVariants.{StandsAlready as Standing, Full}
use Rattle.rising.proofs.Keys.{standing}
use Rattle.book.specs.declared.derivation.Derivation.{Derivation}
use Rattle.book.specs.declared.refusal.Refusal.TheVariants.{NoSuchModel, FromItself, StandsAlready, BookFull, DoesNotStand}
use Rattle.book.specs.Order.{by_models}
use Rattle.book.specs.Refusals.{first, add_refusal, remove_refusal}
use Rattle.book.specs.Derivations.{known, taken_from}
use Rattle.book.specs.Books.{entry_refusal, strike_refusal}
use Rattle.book.proofs.Taken.{has_taken, taken_has}
use Rattle.index.specs.Meanings.{Meaning, tells, Means}
use Rattle.holds.specs.declared.fault.HoldFault.TheVariants.{OnHold, SheetFull, NotOnHold, AnothersHold}
use Rattle.holds.specs.Holds.{held as held_in, holder_of}
use Rattle.holds.specs.Sheets.{place_fault, release_fault}
use Rattle.history.specs.declared.call.Call.TheVariants.{Enter, Strike, Index, Hold, Release}
use Rattle.history.specs.declared.fault.ShopFault.TheVariants.{Book as OfBook, Index as OfIndex, Hold as OfHold}
use Rattle.history.specs.Events.{Event}
use Rattle.history.specs.Standing.{stands, held, holder}
use Rattle.history.specs.Table.{Refuses, check, refusal, anothers, how_many_stand, how_many_held}
use Rattle.history.specs.Laws.{Bars}
use Rattle.history.specs.Lists.{book_of, sheet_of}
use Rattle.history.proofs.Last.{held_holder}
use Rattle.book.proofs.Derivations.{models_order}
use Rattle.history.proofs.Books.{book_rises, book_stands}
use Rattle.history.proofs.Kept.{Kept, book_test, book_length, sheet_held, sheet_length}

-- enough, or room for more
enough : (a b : ℕ) → leb a b ≡ not (ltb b a)
enough a b = grind (arith, nat_tests)

-- a derivation is found in a rising list exactly if the list has it
found_taken : (ds : List Derivation) (d : Derivation) → rising by_models ds ≡ true → stands_in by_models ds d ≡ taken_from ds d.from d.to
found_taken ds d up =
    let s = standing by_models models_order ds d up in
    same_tests (stands_in by_models ds d) (taken_from ds d.from d.to) (λ t. let h = s.0 t in has_taken ds d h.0 h.1 h.2) (λ t. s.1 (taken_has ds d t))

pub found_stands : (es : List Event) (d : Derivation) → stands_in by_models (book_of es) d ≡ stands es d.from d.to
found_stands es d = found_taken (book_of es) d (book_rises es) ∙ book_stands es d.from d.to

-- the rows of the table, by the tests alone
entry_row : (k e s room : Bool) →
    check (not k) (OfBook NoSuchModel) (check e (OfBook FromItself) (check s (OfBook StandsAlready) (check (not room) (OfBook BookFull) None)))
    ≡ option_map OfBook (first (first (cond k None (Some NoSuchModel)) (cond e (Some FromItself) None)) (add_refusal (cond s (Err Standing) (cond room (Ok tt) (Err Full)))))
entry_row k e s room = grind arith

strike_row : (k s : Bool) →
    check (not k) (OfBook NoSuchModel) (check (not s) (OfBook DoesNotStand) None)
    ≡ option_map OfBook (first (cond k None (Some NoSuchModel)) (remove_refusal (cond s (Ok tt) (Err (record {})))))
strike_row k s = grind arith

hold_row : (h room : Bool) → check h (OfHold OnHold) (check (not room) (OfHold SheetFull) None) ≡ option_map OfHold (cond h (Some OnHold) (cond room None (Some SheetFull)))
hold_row h room = grind arith

release_row : (o : Option ℕ) (p : ℕ) → check (not (is_some o)) (OfHold NotOnHold) (check (anothers o p) (OfHold AnothersHold) None) ≡ option_map OfHold (release_fault o p)
release_row None p = refl
release_row (Some q) p = grind arith

module _ (n : ℕ) (refuses : Refuses) (es : List Event) (k : Kept n es) where
  pub entry_owed : (d : Derivation) → refusal n refuses es (Enter d) ≡ option_map OfBook (entry_refusal n (book_of es) d)
  entry_owed d = rw (enough 2048 (how_many_stand n es), book_length n es k, found_stands es d) (entry_row (known n d) (eqb d.from d.to) (stands es d.from d.to) (ltb (how_many_stand n es) 2048))

  pub strike_owed : (d : Derivation) → refusal n refuses es (Strike d) ≡ option_map OfBook (strike_refusal n (book_of es) d)
  strike_owed d = rw (found_stands es d) (strike_row (known n d) (stands es d.from d.to))

  pub index_owed : (work : ℕ) → refusal n refuses es (Index work) ≡ option_map OfIndex (refuses n (taken_from (book_of es)) work)
  index_owed work = ap (λ R. option_map OfIndex (refuses n R work)) (sym (book_test es))

  pub hold_owed : (m p : ℕ) → refusal n refuses es (Hold m p) ≡ check (not (ltb m n)) (OfBook NoSuchModel) (option_map OfHold (place_fault (sheet_of es) m))
  hold_owed m p = rw (enough 64 (how_many_held n es), sheet_length n es k, sheet_held n es k m) (ap (check (not (ltb m n)) (OfBook NoSuchModel)) (hold_row (held es m) (ltb (how_many_held n es) 64)))

  pub release_owed : (m p : ℕ) → refusal n refuses es (Release m p) ≡ check (not (ltb m n)) (OfBook NoSuchModel) (option_map OfHold (release_fault (holder_of (sheet_of es) m) p))
  release_owed m p = rw (held_holder es m, k.holders m) (ap (check (not (ltb m n)) (OfBook NoSuchModel)) (release_row (holder es m) p))

  -- a model of the sheet of which an index of what stands says that it leads to m, is held and leads to m
  pub bars_told : (is : Meaning) → Means is n (stands es) → (m h : ℕ) → m < n → Decides (held_in (sheet_of es) h && tells is h m) (Bars es m h)
  bars_told is means m h low = rw (sheet_held n es k h) (
    (λ t. let p = and_parts (held es h) (tells is h m) t in record { held = p.0; leads = (means.leads h m (k.below h p.0) low).0 p.1 }),
    (λ b. and_from (held es h) (tells is h m) b.held ((means.leads h m (k.below h b.held) low).1 b.leads)),
  )
