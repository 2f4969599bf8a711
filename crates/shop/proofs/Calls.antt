-- Each call keeps the law, by what the book, the sheet and the index did.
use Rattle.std.proofs.Common.{◌≡◌, ℕ, Bool, true, false, cond, not, ◌&&◌, ltb, List, [], ◌∷◌, ◌++◌, Some, None, Ok, Err, Decides, Option, Result, sym, refl, ap, ◌∙◌, subst, ap₂}
use Rattle.std.specs.Option.{option_map}
use Rattle.std.proofs.lemmas.Bool.{not-false, ltb-true}
use Rattle.book.specs.declared.derivation.Derivation.{Derivation}
use Rattle.book.specs.declared.kept.Book.{Book}
use Rattle.book.specs.declared.refusal.Refusal.{Refusal}
use Rattle.book.specs.declared.refusal.Refusal.TheVariants.{NoSuchModel}
use Rattle.book.specs.Derivations.{taken_from}
use Rattle.book.specs.Order.{by_models}
use Rattle.book.specs.Refusals.{first}
use Rattle.book.specs.Books.{standing, count_of, is_stale, entry_refusal, strike_refusal, Enters, Strikes}
use Rattle.rising.specs.Lists.{insert, delete}
use Rattle.index.specs.declared.fault.IndexFault.{IndexFault}
use Rattle.index.specs.Meanings.{Meaning, Means, tells}
use Rattle.holds.specs.declared.sheet.Hold.{Hold}
use Rattle.holds.specs.declared.sheet.HoldSheet.{HoldSheet}
use Rattle.holds.specs.Holds.{held as held_in, holder_of, released as without}
use Rattle.holds.specs.Sheets.{standing as Holds_on, place_fault, release_fault, Places, Releases}
use Rattle.history.specs.declared.answer.Outcome.{Outcome}
use Rattle.history.specs.declared.answer.Outcome.TheVariants.{Done, Carve, Stop}
use Rattle.history.specs.declared.call.Call.{Call}
use Rattle.history.specs.declared.call.Call.TheVariants.{Enter, Strike, Index, Hold as ToHold, Release, Order}
use Rattle.history.specs.declared.fault.ShopFault.{ShopFault}
use Rattle.history.specs.declared.fault.ShopFault.TheVariants.{Book as OfBook, Index as OfIndex, Hold as OfHold, Stale}
use Rattle.history.specs.Events.{History, happened}
use Rattle.history.specs.Standing.{stands, current}
use Rattle.history.specs.Table.{Refuses, check, refusal}
use Rattle.history.specs.Laws.{Bars, ordered, Lawful, LawfulHistory}
use Rattle.history.specs.Lists.{book_of, sheet_of}
use Rattle.history.proofs.Histories.{lawful_none, lawful_more}
use Rattle.history.proofs.Kept.{Kept, kept_lawful, book_test}
use Rattle.history.proofs.Owed.{entry_owed, strike_owed, index_owed, hold_owed, release_owed, bars_told}
use Rattle.history.proofs.Answering.{lawful_refused, lawful_done, lawful_carve, lawful_stop}
use Rattle.shop.specs.declared.running.Shop.{Shop}
use Rattle.shop.specs.Shops.{book_in, sheet_in, index_in, models_in, unknown_to, bars_in, LowestOf, Follows, Keeps}

-- the check of a model comes first
known_first : (b : Bool) (next : Option ShopFault) → check (not b) (OfBook NoSuchModel) next ≡ first (option_map OfBook (cond b None (Some NoSuchModel))) next
known_first true next = refl
known_first false next = refl

is_below : (b : Bool) → cond b None (Some NoSuchModel) ≡ None → b ≡ true
is_below true e = refl
is_below false e = cc

-- a shop of which one part is as it was, the others being the same
pub book_only : {X : Type 0} (s : Shop X) (b : Book) → b ≡ book_in s → ◌≡◌ {A = Shop X} (record { book = b; sheet = sheet_in s; index = index_in s }) s
book_only s b e = ap (λ (x : Book). record { book = x; sheet = sheet_in s; index = index_in s }) e

pub sheet_only : {X : Type 0} (s : Shop X) (b : HoldSheet) → b ≡ sheet_in s → ◌≡◌ {A = Shop X} (record { book = book_in s; sheet = b; index = index_in s }) s
sheet_only s b e = ap (λ (x : HoldSheet). record { book = book_in s; sheet = x; index = index_in s }) e

-- what the table says of a call, after any history that the shop follows
pub record Owes {X : Type 0} (meaning : X → Meaning) (refuses : X → Refuses) (s : Shop X) (call : Call) (o : Option ShopFault) : Type 0 where
  pub by : (n : ℕ) (owed : Refuses) (h : History) → Follows meaning refuses n owed h s → refusal n owed (happened h) call ≡ o

module _ {X : Type 0} {meaning : X → Meaning} {refuses : X → Refuses} where
  pub opened : {n : ℕ} {owed : Refuses} {t : Shop X} → models_in t ≡ n → standing (book_in t) ≡ [] → Holds_on (sheet_in t) ≡ [] → is_stale (book_in t) ≡ true → refuses (index_in t) ≡ owed → Follows meaning refuses n owed [] t
  unfolding current book_of sheet_of
  opened {n} {owed} count book sheet stale rule = record { lawful = lawful_none n owed; count = count; book = book; sheet = sheet; mark = stale; means = λ e. cc; rule = rule }

  pub kept : {n : ℕ} {owed : Refuses} {h : History} {s : Shop X} → Follows meaning refuses n owed h s → Kept n (happened h)
  kept {n} {owed} {h} f = kept_lawful n owed h f.lawful

  module _ (s : Shop X) where
    pub owes_as : {call : Call} {o p : Option ShopFault} → Owes meaning refuses s call o → o ≡ p → Owes meaning refuses s call p
    owes_as w e = record { by = λ n owed h f. w.by n owed h f ∙ e }

    -- of a call for a model: a model that the shop does not have is refused, and of one that it has the rest decides
    pub owes_unknown : {call : Call} {e : Refusal} (m : ℕ) (next : Option ShopFault) → Owes meaning refuses s call (first (option_map OfBook (unknown_to s m)) next) → unknown_to s m ≡ Some e → Owes meaning refuses s call (Some (OfBook e))
    owes_unknown m next w q = owes_as w (ap (λ (o : Option Refusal). first (option_map OfBook o) next) q)

    pub owes_next : {call : Call} {next o : Option ShopFault} (m : ℕ) → Owes meaning refuses s call (first (option_map OfBook (unknown_to s m)) next) → unknown_to s m ≡ None → next ≡ o → Owes meaning refuses s call o
    owes_next m w low e = owes_as w (ap₂ (λ (o : Option Refusal) (n : Option ShopFault). first (option_map OfBook o) n) low e)

    -- each call, by what the parts refuse it with
    pub entry_owes : (d : Derivation) → Owes meaning refuses s (Enter d) (option_map OfBook (entry_refusal (models_in s) (standing (book_in s)) d))
    entry_owes d = record { by = λ n owed h f. simp (f.count, f.book) (entry_owed n owed (happened h) (kept f) d) }

    pub strike_owes : (d : Derivation) → Owes meaning refuses s (Strike d) (option_map OfBook (strike_refusal (models_in s) (standing (book_in s)) d))
    strike_owes d = record { by = λ n owed h f. simp (f.count, f.book) (strike_owed n owed (happened h) (kept f) d) }

    pub index_owes : (work : ℕ) → Owes meaning refuses s (Index work) (option_map OfIndex (refuses (index_in s) (models_in s) (taken_from (standing (book_in s))) work))
    index_owes work = record { by = λ n owed h f. simp (f.count, f.book) (index_owed n owed (happened h) (kept f) work ∙ ap (λ (r : Refuses). option_map OfIndex (r n (taken_from (book_of (happened h))) work)) (sym f.rule)) }

    pub hold_owes : (m p : ℕ) → Owes meaning refuses s (ToHold m p) (first (option_map OfBook (unknown_to s m)) (option_map OfHold (place_fault (Holds_on (sheet_in s)) m)))
    hold_owes m p = record { by = λ n owed h f. simp (f.count, f.sheet) (hold_owed n owed (happened h) (kept f) m p ∙ known_first (ltb m n) _) }

    pub release_owes : (m p : ℕ) → Owes meaning refuses s (Release m p) (first (option_map OfBook (unknown_to s m)) (option_map OfHold (release_fault (holder_of (Holds_on (sheet_in s)) m) p)))
    release_owes m p = record { by = λ n owed h f. simp (f.count, f.sheet) (release_owed n owed (happened h) (kept f) m p ∙ known_first (ltb m n) _) }

    pub order_owes : (m : ℕ) → Owes meaning refuses s (Order m) (first (option_map OfBook (unknown_to s m)) (check (is_stale (book_in s)) Stale None))
    order_owes m = record { by = λ n owed h f. simp (f.count, f.mark) (known_first (ltb m n) _) }

    -- a refused call, which may leave another index that means the same
    pub unindexed_keeps : {call : Call} {e : ShopFault} (i : X) → meaning i ≡ meaning (index_in s) → refuses i ≡ refuses (index_in s) → Owes meaning refuses s call (Some e)
        → Keeps meaning refuses s call (Err e) (record { book = book_in s; sheet = sheet_in s; index = i })
    unindexed_keeps {call} {e} i means rule w = record {
      law = λ n owed h f. lawful_refused n owed (happened h) call e (w.by n owed h f);
      follows = λ n owed h f. record {
        lawful = lawful_more n owed h call (Err e) (lawful_refused n owed (happened h) call e (w.by n owed h f)) f.lawful;
        count = f.count;
        book = f.book;
        sheet = f.sheet;
        mark = f.mark;
        means = λ c. subst (λ (m : Meaning). Means m n (stands (happened h))) (sym means) (f.means c);
        rule = rule ∙ f.rule;
      };
    }

    pub refused_keeps : {call : Call} {e : ShopFault} → Owes meaning refuses s call (Some e) → Keeps meaning refuses s call (Err e) s
    refused_keeps w = unindexed_keeps (index_in s) refl refl w

    -- a call that is done, by what it leaves
    done_keeps : {call : Call} {t : Shop X} → ordered call ≡ None → Owes meaning refuses s call None
        → ((n : ℕ) (owed : Refuses) (h : History) → Follows meaning refuses n owed h s → LawfulHistory n owed ((call, Ok Done) ∷ h) → Follows meaning refuses n owed ((call, Ok Done) ∷ h) t)
        → Keeps meaning refuses s call (Ok Done) t
    done_keeps {call} o w leaves = record {
      law = λ n owed h f. lawful_done n owed (happened h) call o (w.by n owed h f);
      follows = λ n owed h f. leaves n owed h f (lawful_more n owed h call (Ok Done) (lawful_done n owed (happened h) call o (w.by n owed h f)) f.lawful);
    }

    -- an entry and a strike
    pub entered_keeps : (d : Derivation) (b : Book) → Enters (book_in s) d (Ok tt) b → Keeps meaning refuses s (Enter d) (Ok Done) (record { book = b; sheet = sheet_in s; index = index_in s })
    unfolding current book_of sheet_of
    entered_keeps d b e = done_keeps refl (owes_as (entry_owes d) (ap (option_map OfBook) e.0)) (λ n owed h f l. record {
      lawful = l;
      count = ap (λ c. c.models) e.2 ∙ f.count;
      book = e.1 ∙ ap (λ ds. insert by_models ds d) f.book;
      sheet = f.sheet;
      mark = e.3;
      means = λ c. cc;
      rule = f.rule;
    })

    pub struck_keeps : (d : Derivation) (b : Book) → Strikes (book_in s) d (Ok tt) b → Keeps meaning refuses s (Strike d) (Ok Done) (record { book = b; sheet = sheet_in s; index = index_in s })
    unfolding current book_of sheet_of
    struck_keeps d b e = done_keeps refl (owes_as (strike_owes d) (ap (option_map OfBook) e.0)) (λ n owed h f l. record {
      lawful = l;
      count = ap (λ c. c.models) e.2 ∙ f.count;
      book = e.1 ∙ ap (λ ds. delete by_models ds d) f.book;
      sheet = f.sheet;
      mark = e.3;
      means = λ c. cc;
      rule = f.rule;
    })

    -- a hold and a release
    pub placed_keeps : (m p : ℕ) (hs : HoldSheet) → unknown_to s m ≡ None → Places (sheet_in s) m p (Ok tt) hs → Keeps meaning refuses s (ToHold m p) (Ok Done) (record { book = book_in s; sheet = hs; index = index_in s })
    unfolding stands current book_of sheet_of
    placed_keeps m p hs low e = done_keeps refl (owes_next m (hold_owes m p) low (ap (option_map OfHold) e.0)) (λ n owed h f l. record {
      lawful = l;
      count = f.count;
      book = f.book;
      sheet = e.1 ∙ ap (λ (ks : List Hold). ks ++ record { model = m; holder = p } ∷ []) f.sheet;
      mark = f.mark;
      means = f.means;
      rule = f.rule;
    })

    pub released_keeps : (m p : ℕ) (hs : HoldSheet) → unknown_to s m ≡ None → Releases (sheet_in s) m p (Ok tt) hs → Keeps meaning refuses s (Release m p) (Ok Done) (record { book = book_in s; sheet = hs; index = index_in s })
    unfolding stands current book_of sheet_of
    released_keeps m p hs low e = done_keeps refl (owes_next m (release_owes m p) low (ap (option_map OfHold) e.0)) (λ n owed h f l. record {
      lawful = l;
      count = f.count;
      book = f.book;
      sheet = e.1 ∙ ap (λ ks. without ks m) f.sheet;
      mark = f.mark;
      means = f.means;
      rule = f.rule;
    })

    -- the book's test is what stands
    pub test_as : {n : ℕ} {owed : Refuses} {h : History} → Follows meaning refuses n owed h s → taken_from (standing (book_in s)) ≡ stands (happened h)
    test_as {h = h} f = ap taken_from f.book ∙ book_test (happened h)

    -- an indexing
    pub indexed_keeps : (work : ℕ) (b : Book) (i : X) → standing b ≡ standing (book_in s) → count_of b ≡ count_of (book_in s) → is_stale b ≡ false → refuses i ≡ refuses (index_in s)
        → refuses (index_in s) (models_in s) (taken_from (standing (book_in s))) work ≡ None → Means (meaning i) (models_in s) (taken_from (standing (book_in s)))
        → Keeps meaning refuses s (Index work) (Ok Done) (record { book = b; sheet = sheet_in s; index = i })
    unfolding stands current book_of sheet_of
    indexed_keeps work b i book count fresh rule owes means = done_keeps refl (owes_as (index_owes work) (ap (option_map OfIndex) owes)) (λ n owed h f l. record {
      lawful = l;
      count = ap (λ c. c.models) count ∙ f.count;
      book = book ∙ f.book;
      sheet = f.sheet;
      mark = fresh;
      means = λ c. subst (λ (x : ℕ). Means (meaning i) x (stands (happened h))) f.count (subst (Means (meaning i) (models_in s)) (test_as f) means);
      rule = rule ∙ f.rule;
    })

    -- an order that is not refused changes nothing
    ordered_keeps : (m : ℕ) (o : Outcome) → ((n : ℕ) (owed : Refuses) (h : History) → Follows meaning refuses n owed h s → Lawful n owed (happened h) (Order m) (Ok o)) → Keeps meaning refuses s (Order m) (Ok o) s
    ordered_keeps m o law = record {
      law = law;
      follows = λ n owed h f. record {
        lawful = lawful_more n owed h (Order m) (Ok o) (law n owed h f) f.lawful;
        count = f.count;
        book = f.book;
        sheet = f.sheet;
        mark = f.mark;
        means = f.means;
        rule = f.rule;
      };
    }

    module _ (m : ℕ) (low : unknown_to s m ≡ None) (fresh : is_stale (book_in s) ≡ false) where
      granted : Owes meaning refuses s (Order m) None
      granted = owes_next m (order_owes m) low (ap (λ b. check b Stale None) fresh)

      -- the sheet and the index tell exactly the held models that lead to m
      barred : {n : ℕ} {owed : Refuses} {h : History} → Follows meaning refuses n owed h s → (k : ℕ) → Decides (bars_in meaning s m k) (Bars (happened h) m k)
      barred {n} {owed} {h} f k =
          let es = happened h in
          let now : current es ≡ true = not-false (current es) (sym f.mark ∙ fresh) in
          let below : ltb m n ≡ true = is_below (ltb m n) (rw (← f.count) low) in
          subst (λ (hs : List Hold). Decides (held_in hs k && tells (meaning (index_in s)) k m) (Bars es m k)) (sym f.sheet)
          (bars_told n owed es (kept f) (meaning (index_in s)) (f.means now) m k (ltb-true m n below))

      pub carved_keeps : LowestOf (bars_in meaning s m) None → Keeps meaning refuses s (Order m) (Ok Carve) s
      carved_keeps none = ordered_keeps m Carve (λ n owed h f. lawful_carve n owed (happened h) m (granted.by n owed h f) (λ k b. none k ((barred f k).1 b)))

      pub stopped_keeps : (k : ℕ) → LowestOf (bars_in meaning s m) (Some k) → Keeps meaning refuses s (Order m) (Ok (Stop (record { model = k }))) s
      stopped_keeps k least = ordered_keeps m (Stop (record { model = k }))
          (λ n owed h f. lawful_stop n owed (happened h) m k (granted.by n owed h f) (record { bars = (barred f k).0 least.0; lowest = λ j b. least.1 j ((barred f j).1 b) }))

    -- what a kind shows of the book as a test, it shows of what stands
    pub shown_as : (shows : X → ℕ → (ℕ → ℕ → Bool) → Result (Unit {0}) IndexFault → X → Type 0) {n : ℕ} {owed : Refuses} {h : History} → Follows meaning refuses n owed h s
        → (r : Result (Unit {0}) IndexFault) (i : X) → shows (index_in s) (models_in s) (taken_from (standing (book_in s))) r i → shows (index_in s) n (stands (happened h)) r i
    shown_as shows {h = h} f r i e =
        subst (λ (x : ℕ). shows (index_in s) x (stands (happened h)) r i) f.count
        (subst (λ (R : ℕ → ℕ → Bool). shows (index_in s) (models_in s) R r i) (test_as f) e)
