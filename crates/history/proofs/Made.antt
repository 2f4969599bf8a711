-- The computed answer is lawful, so any calls make one lawful history; and what orders are answered.
use Rattle.std.proofs.Common.{◌≡◌, ℕ, Bool, true, false, cond, not, ◌&&◌, ltb, List, [], ◌∷◌, ◌++◌, Some, None, Ok, Option, sym, refl, ap, ◌∙◌, subst, inl, inr, arith}
use Rattle.std.specs.Option.{option_map}
use Rattle.std.proofs.lemmas.Bool.{cases_lt, lt-ltb, le-ltb, and_parts, and_from, true≢false, ltb-true, not-false}
use Rattle.lineage.specs.Book.{leads}
use Rattle.lineage.proofs.Numbers.{Least, least_is}
use Rattle.lineage.proofs.Groups.{leads_sound, leads_whole}
use Rattle.index.specs.Builds.{rule}
use Rattle.book.specs.Refusals.{unless}
use Rattle.book.specs.declared.refusal.Refusal.TheVariants.{NoSuchModel}
use Rattle.history.specs.declared.call.Call.{Call}
use Rattle.history.specs.declared.call.Call.TheVariants.{Enter, Strike, Index, Hold, Release, Order}
use Rattle.history.specs.declared.fault.ShopFault.{ShopFault}
use Rattle.history.specs.declared.fault.ShopFault.TheVariants.{Book as OfBook, Stale}
use Rattle.history.specs.Faults.{number}
use Rattle.history.specs.Answers.{Answer, refused}
use Rattle.history.specs.Events.{Event, History, happened}
use Rattle.history.specs.Standing.{stands, held, current}
use Rattle.history.specs.Table.{Refuses, refusal}
use Rattle.history.specs.Laws.{Bars, Free, Lowest, AnswersOrder, Granted, ordered, Lawful, LawfulHistory, Law}
use Rattle.history.specs.Made.{lowest_held, grant, answer_to, made}
use Rattle.history.specs.Theorems.{calls, OrdersAreAnswered, OneLawfulHistory, LawfulListsSay}
use Rattle.history.proofs.Orders.{carve_answers, stop_answers}
use Rattle.history.proofs.Histories.{lawful_none, lawful_more, decided_histories}
use Rattle.history.proofs.Books.{book_rises, book_stands}
use Rattle.history.proofs.Kept.{Kept, kept_lawful, book_length, sheet_held, sheet_length, check_none}
use Rattle.history.proofs.Answering.{lawful_refused}

module _ (n : ℕ) (es : List Event) (k : Kept n es) where
  bars_test : (m h : ℕ) → Bars es m h → (held es h && leads n (stands es) h m) ≡ true
  bars_test m h b = and_from (held es h) (leads n (stands es) h m) b.held (leads_whole n (stands es) k.within b.leads)

  test_bars : (m h : ℕ) → (held es h && leads n (stands es) h m) ≡ true → Bars es m h
  test_bars m h t =
      let p = and_parts (held es h) (leads n (stands es) h m) t in
      record { held = p.0; leads = leads_sound n (stands es) k.within h m p.1 }

  lowest_is : (m : ℕ) → Least n (λ h. held es h && leads n (stands es) h m) (lowest_held n es m)
  lowest_is m = least_is n (λ h. held es h && leads n (stands es) h m)

  grant_order : (m : ℕ) → AnswersOrder es m (Ok (grant n es (Some m)))
  grant_order m =
      let r = lowest_held n es m in
      let l = lowest_is m in
      elim (cases_lt r n) [
        | inl low ↦ (
            let s : Lowest es m r = record {
              bars = test_bars m r (l.hit low);
              lowest = λ h b. elim (cases_lt h r) [ inl o ↦ absurd (true≢false (sym (bars_test m h b) ∙ l.under h o)) | inr o ↦ o ];
            } in
            rw (lt-ltb r n low) (stop_answers es m r s)
            )
        | inr high ↦ (
            let f : Free es m = λ h b. true≢false (sym (bars_test m h b) ∙ l.under h (omega (arith, k.below h b.held))) in
            rw (le-ltb r n high) (carve_answers es m f)
            )
      ]

  grant_right : (o : Option ℕ) → Granted o es (Ok (grant n es o))
  grant_right None = refl
  grant_right (Some m) = grant_order m

  answer_by : (refuses : Refuses) (call : Call) (o : Option ShopFault) → refusal n refuses es call ≡ o → Lawful n refuses es call (unless o (Ok (grant n es (ordered call))))
  answer_by refuses call None e = record { table = sym e; granted = λ r. grant_right (ordered call) }
  answer_by refuses call (Some f) e = lawful_refused n refuses es call f e

  -- the computed answer is lawful
  pub answer_lawful : (refuses : Refuses) (call : Call) → Lawful n refuses es call (answer_to n refuses es call)
  answer_lawful refuses call = answer_by refuses call (refusal n refuses es call) refl

module _ (n : ℕ) (refuses : Refuses) where
  made_calls : (cs : List Call) → calls (made n refuses cs) ≡ cs
  made_calls [] = refl
  made_calls (c ∷ cs) = ap (λ (xs : List Call). c ∷ xs) (made_calls cs)

  made_lawful : (cs : List Call) → LawfulHistory n refuses (made n refuses cs)
  made_lawful [] = lawful_none n refuses
  made_lawful (c ∷ cs) =
      let before = made_lawful cs in
      lawful_more n refuses (made n refuses cs) c (answer_to n refuses (happened (made n refuses cs)) c)
      (answer_lawful n (happened (made n refuses cs)) (kept_lawful n refuses (made n refuses cs) before) refuses c) before

pub one_lawful_history : OneLawfulHistory
one_lawful_history = record {
  same_calls = made_calls;
  lawful = made_lawful;
  only = λ n refuses cs h e l. decided_histories n refuses refuses h (made n refuses cs) (λ R w. refl) (e ∙ sym (made_calls n refuses cs)) l (made_lawful n refuses cs);
}

-- an order by what the table says of it
module _ (n : ℕ) (refuses : Refuses) (es : List Event) (m : ℕ) (a : Answer) (l : Lawful n refuses es (Order m) a) where
  order_owed : (known now : Bool) → ltb m n ≡ known → current es ≡ now → refused a ≡ cond (not known) (Some (OfBook NoSuchModel)) (cond (not now) (Some Stale) None)
  order_owed known now p q =
      l.table
      ∙ ap (λ b. cond (not b) (Some (OfBook NoSuchModel)) (cond (not (current es)) (Some Stale) None)) p
      ∙ ap (λ b. cond (not known) (Some (OfBook NoSuchModel)) (cond (not b) (Some Stale) None)) q

pub orders_are_answered : OrdersAreAnswered
orders_are_answered = record {
  while_current = λ n refuses es m a l low c. l.granted (order_owed n refuses es m a l true true (lt-ltb m n low) c);
  while_stale = λ n refuses es m a l low c. ap (option_map number) (order_owed n refuses es m a l true false (lt-ltb m n low) c);
  unknown = λ n refuses es m a l high. ap (option_map number) (order_owed n refuses es m a l false (current es) (le-ltb m n high) refl);
}

-- a lawful history keeps the law in all its words
pub lawful_law : (n capacity : ℕ) (h : History) → LawfulHistory n (rule capacity) h → Law n capacity h
lawful_law n capacity h l = record {
  table = λ after before call a e. (l.each after before call a e).table;
  done = λ after before call a e o r. subst (λ (x : Option ℕ). Granted x (happened before) a) o ((l.each after before call a e).granted r);
  carve = λ after before m a e low c. (orders_are_answered.while_current n (rule capacity) (happened before) m a (l.each after before (Order m) a e) low c).carve;
  stop = λ after before m a e low c. (orders_are_answered.while_current n (rule capacity) (happened before) m a (l.each after before (Order m) a e) low c).stop;
  stale = λ after before m a e low c. orders_are_answered.while_stale n (rule capacity) (happened before) m a (l.each after before (Order m) a e) low c;
}

-- and what keeps the law is a lawful history
pub law_lawful : (n capacity : ℕ) (h : History) → Law n capacity h → LawfulHistory n (rule capacity) h
law_lawful n capacity h l = record {
  each = λ after before call a e. record { table = l.table after before call a e; granted = by_law call after before a e };
}
  where
    by_law : (call : Call) (after before : History) (a : Answer) → h ≡ after ++ (call, a) ∷ before → refused a ≡ None → Granted (ordered call) (happened before) a
    by_law (Enter d) after before a e r = l.done after before (Enter d) a e refl r
    by_law (Strike d) after before a e r = l.done after before (Strike d) a e refl r
    by_law (Index work) after before a e r = l.done after before (Index work) a e refl r
    by_law (Hold m p) after before a e r = l.done after before (Hold m p) a e refl r
    by_law (Release m p) after before a e r = l.done after before (Release m p) a e refl r
    by_law (Order m) after before a e r =
        let known = check_none (not (ltb m n)) _ _ (sym r ∙ l.table after before (Order m) a e) in
        let fresh = check_none (not (current (happened before))) _ _ known.1 in
        let low = ltb-true m n (not-false (ltb m n) known.0) in
        let now = not-false (current (happened before)) fresh.0 in
        record { carve = l.carve after before m a e low now; stop = l.stop after before m a e low now }

pub lawful_lists_say : LawfulListsSay
lawful_lists_say n refuses h l =
    let k = kept_lawful n refuses h l in
    let es = happened h in
    record {
      rises = book_rises es;
      taken = book_stands es;
      many = book_length n es k;
      once = k.once;
      on_hold = sheet_held n es k;
      by_whom = k.holders;
      how_many = sheet_length n es k;
    }
