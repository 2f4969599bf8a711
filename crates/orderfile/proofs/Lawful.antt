-- The law over the lines of a day.
use Rattle.std.proofs.Common.{◌≡◌, ℕ, suc, ◌<◌, true, not, ltb, List, [], ◌∷◌, ◌++◌, reverse, length, Some, None, Ok, Err, Option, sym, refl, ap, ◌∙◌, append_assoc, arith}
use mathlib.Core.List.{reverse-cons}
use Rattle.std.specs.Option.{option_map}
use Rattle.std.specs.List.{slice_get}
use Rattle.std.proofs.lemmas.List.{append-nil}
use Rattle.std.proofs.lemmas.Option.{none-some}
use Rattle.std.proofs.lemmas.Bool.{not-false, ltb-true}
use Rattle.book.specs.Refusals.{first}
use Rattle.bookfile.specs.declared.refusal.FileRefusal.{FileRefusal}
use Rattle.bookfile.specs.Files.{count_in, derivations_in}
use Rattle.bookfile.specs.Table.{file_refusal}
use Rattle.bookfile.proofs.Files.{accepted_valid}
use Rattle.index.specs.Builds.{rule}
use Rattle.history.specs.declared.answer.Outcome.TheVariants.{Done, Carve, Stop}
use Rattle.history.specs.declared.call.Call.{Call}
use Rattle.history.specs.declared.call.Call.TheVariants.{Order as ToOrder}
use Rattle.history.specs.Answers.{Answer, carved, named, refused}
use Rattle.history.specs.Events.{Event, History, happened}
use Rattle.history.specs.Standing.{current}
use Rattle.history.specs.Table.{Refuses}
use Rattle.history.specs.Laws.{Free, Lowest, Lawful, LawfulHistory, AnswersOrder}
use Rattle.history.specs.Made.{answer_to}
use Rattle.history.specs.Theorems.{calls}
use Rattle.history.proofs.Histories.{lawful_more}
use Rattle.history.proofs.Kept.{kept_lawful, check_none}
use Rattle.history.proofs.Orders.{carve_is, stop_is}
use Rattle.history.proofs.Made.{answer_lawful, lawful_law, orders_are_answered}
use Rattle.lines.specs.declared.form.Form.{Form}
use Rattle.lines.specs.declared.form.Form.TheVariants.{Order}
use Rattle.lines.specs.Computed.{form_of}
use Rattle.lines.specs.Forms.{numbers_of, Small, call_of}
use Rattle.lines.specs.Lines.{lines_of}
use Rattle.lines.specs.Replies.{Reply, reply_of}
use Rattle.lines.specs.Texts.{text}
use Rattle.lines.proofs.Computed.{form_only}
use Rattle.shop.specs.Loads.{entries}
use Rattle.orderfile.specs.declared.day.DayFault.{DayFault}
use Rattle.orderfile.specs.declared.day.DayFault.TheVariants.{Book}
use Rattle.orderfile.specs.Days.{day_fault, reply_to, behind, history_behind, replies}
use Rattle.orderfile.specs.Laws.{call_in, calls_in, LinesLawful}
use Rattle.orderfile.proofs.Entries.{lawful_entries, entries_calls}

module _ (n : ℕ) (refuses : Refuses) (work : ℕ) where
  many_replies : (h : History) (ls : List (List ℕ)) → length (replies n refuses work h ls) ≡ length ls
  many_replies h [] = refl
  many_replies h (l ∷ ls) = ap suc (many_replies (behind n refuses work h (form_of l)) ls)

  -- the reply to a line stands at the number of the lines before it
  reply_at : (h : History) (before after : List (List ℕ)) (l : List ℕ) → slice_get (replies n refuses work h (before ++ l ∷ after)) (length before) ≡ Some (reply_to n refuses work (history_behind n refuses work h before) (form_of l))
  reply_at h [] after l = refl
  reply_at h (b ∷ before) after l = reply_at (behind n refuses work h (form_of b)) before after l

  pub lawful_behind : (h : History) (o : Option Form) → LawfulHistory n refuses h → LawfulHistory n refuses (behind n refuses work h o)
  lawful_behind h None l = l
  lawful_behind h (Some f) l =
      lawful_more n refuses h (call_of work f) (answer_to n refuses (happened h) (call_of work f)) (answer_lawful n (happened h) (kept_lawful n refuses h l) refuses (call_of work f)) l

  lawful_lines : (h : History) (ls : List (List ℕ)) → LawfulHistory n refuses h → LawfulHistory n refuses (history_behind n refuses work h ls)
  lawful_lines h [] l = l
  lawful_lines h (b ∷ ls) l = lawful_lines (behind n refuses work h (form_of b)) ls (lawful_behind h (form_of b) l)

  calls_behind : (h : History) (o : Option Form) → reverse (calls (behind n refuses work h o)) ≡ reverse (calls h) ++ call_in work o
  calls_behind h None = sym (append-nil (reverse (calls h)))
  calls_behind h (Some f) = reverse-cons (call_of work f) (calls h)

  calls_lines : (h : History) (ls : List (List ℕ)) → reverse (calls (history_behind n refuses work h ls)) ≡ reverse (calls h) ++ calls_in work ls
  calls_lines h [] = sym (append-nil (reverse (calls h)))
  calls_lines h (l ∷ ls) =
      calls_lines (behind n refuses work h (form_of l)) ls
      ∙ ap (λ (cs : List Call). cs ++ calls_in work ls) (calls_behind h (form_of l))
      ∙ append_assoc (reverse (calls h)) (call_in work (form_of l)) (calls_in work ls)

-- an answer by its reply
carve_reply : (a : Answer) → reply_of a ≡ Ok Carve → carved a ≡ true
carve_reply (Ok Done) e = absurd (let z : ◌≡◌ {A = ℕ} 0 1 = cc in omega arith)
carve_reply (Ok Carve) e = refl
carve_reply (Ok (Stop s)) e = absurd (let z : ◌≡◌ {A = ℕ} 0 1 = cc in omega arith)
carve_reply (Err f) e = absurd (let z : ◌≡◌ {A = ℕ} 0 1 = cc in omega arith)

stop_reply : (a : Answer) (k : ℕ) → reply_of a ≡ Ok (Stop (record { model = k })) → named a ≡ Some k
stop_reply (Ok Done) k e = absurd (let z : ◌≡◌ {A = ℕ} 0 1 = cc in omega arith)
stop_reply (Ok Carve) k e = absurd (let z : ◌≡◌ {A = ℕ} 0 1 = cc in omega arith)
stop_reply (Ok (Stop s)) k e = let q : s.model ≡ k = cc in ap Some q
stop_reply (Err f) k e = absurd (let z : ◌≡◌ {A = ℕ} 0 1 = cc in omega arith)

-- an order that is not refused is for a model of the book, while the index is current
module _ (n : ℕ) (refuses : Refuses) (es : List Event) (m : ℕ) (a : Answer) (l : Lawful n refuses es (ToOrder m) a) where
  granted_order : refused a ≡ None → (m < n) × (current es ≡ true) × AnswersOrder es m a
  granted_order r =
      let known = check_none (not (ltb m n)) _ _ (sym r ∙ l.table) in
      let fresh = check_none (not (current es)) _ _ known.1 in
      (ltb-true m n (not-false (ltb m n) known.0), not-false (current es) fresh.0, l.granted r)

  carve_exactly : (o : Option Reply) → o ≡ Some (reply_of a) → ((o ≡ Some (Ok Carve)) → (m < n) × (current es ≡ true) × Free es m) × ((m < n) × (current es ≡ true) × Free es m → o ≡ Some (Ok Carve))
  carve_exactly o e = (
    (λ q.
        let r : reply_of a ≡ Ok Carve = cc in
        let c = carve_reply a r in
        let g = granted_order (ap refused (carve_is a c)) in
        (g.0, g.1, g.2.carve.0 c)),
    (λ p. e ∙ ap (λ (x : Answer). Some (reply_of x)) (carve_is a ((orders_are_answered.while_current n refuses es m a l p.0 p.1).carve.1 p.2))),
  )

  stop_exactly : (k : ℕ) (o : Option Reply) → o ≡ Some (reply_of a) → ((o ≡ Some (Ok (Stop (record { model = k })))) → (m < n) × (current es ≡ true) × Lowest es m k) × ((m < n) × (current es ≡ true) × Lowest es m k → o ≡ Some (Ok (Stop (record { model = k }))))
  stop_exactly k o e = (
    (λ q.
        let r : reply_of a ≡ Ok (Stop (record { model = k })) = cc in
        let c = stop_reply a k r in
        let g = granted_order (ap refused (stop_is a k c)) in
        (g.0, g.1, (g.2.stop k).0 c)),
    (λ p. e ∙ ap (λ (x : Answer). Some (reply_of x)) (stop_is a k (((orders_are_answered.while_current n refuses es m a l p.0 p.1).stop k).1 p.2))),
  )

book_accepted : (o : Option FileRefusal) (next : Option DayFault) → first (option_map Book o) next ≡ None → o ≡ None
book_accepted None next e = refl
book_accepted (Some r) next e = absurd (none-some _ (sym e))

-- the entries of a day that is answered
pub lawful_start : (capacity : ℕ) (book orders : List ℕ) → day_fault book orders ≡ None → LawfulHistory (count_in book) (rule capacity) (entries (derivations_in book))
lawful_start capacity book orders e = lawful_entries (count_in book) (rule capacity) (derivations_in book) (accepted_valid book (book_accepted (file_refusal book) _ e))

pub lawfully : (capacity work : ℕ) (book orders : List ℕ) → day_fault book orders ≡ None → LinesLawful capacity work book orders
lawfully capacity work book orders e =
    let n = count_in book in
    let ds = derivations_in book in
    let refuses : Refuses = rule capacity in
    let start : LawfulHistory n refuses (entries ds) = lawful_start capacity book orders e in
    let at : (before after : List (List ℕ)) (l : List ℕ) → lines_of orders ≡ before ++ l ∷ after
    → slice_get (replies n refuses work (entries ds) (lines_of orders)) (length before) ≡ Some (reply_to n refuses work (history_behind n refuses work (entries ds) before) (form_of l)) =
    λ before after l q. ap (λ (ls : List (List ℕ)). slice_get (replies n refuses work (entries ds) ls) (length before)) q ∙ reply_at n refuses work (entries ds) before after l in
    let by : (before after : List (List ℕ)) (f : Form) → Small (numbers_of f) → lines_of orders ≡ before ++ text f ∷ after
    → (a : Answer) × (slice_get (replies n refuses work (entries ds) (lines_of orders)) (length before) ≡ Some (reply_of a)) × Lawful n refuses (happened (history_behind n refuses work (entries ds) before)) (call_of work f) a =
    λ before after f small q.
    let h = history_behind n refuses work (entries ds) before in (
      answer_to n refuses (happened h) (call_of work f),
      at before after (text f) q ∙ ap (λ (o : Option Form). Some (reply_to n refuses work h o)) (sym (form_only (text f) (Some f) (small, refl))),
      answer_lawful n (happened h) (kept_lawful n refuses h (lawful_lines n refuses work (entries ds) before start)) refuses (call_of work f),
    ) in
    record {
      many = many_replies n refuses work (entries ds) (lines_of orders);
      calls = calls_lines n refuses work (entries ds) (lines_of orders) ∙ ap (λ (cs : List Call). cs ++ calls_in work (lines_of orders)) (entries_calls ds);
      law = lawful_law n capacity (history_behind n refuses work (entries ds) (lines_of orders)) (lawful_lines n refuses work (entries ds) (lines_of orders) start);
      formless = λ before after l q none. at before after l q ∙ ap (λ (o : Option Form). Some (reply_to n refuses work (history_behind n refuses work (entries ds) before) o)) (sym (form_only l None none));
      formed = by;
      carve = λ before after m small q.
          let p = by before after (Order m) (small, tt) q in
          carve_exactly n refuses (happened (history_behind n refuses work (entries ds) before)) m p.0 p.2 (slice_get (replies n refuses work (entries ds) (lines_of orders)) (length before)) p.1;
      stop = λ before after m k small q.
          let p = by before after (Order m) (small, tt) q in
          stop_exactly n refuses (happened (history_behind n refuses work (entries ds) before)) m p.0 p.2 k (slice_get (replies n refuses work (entries ds) (lines_of orders)) (length before)) p.1;
    }
