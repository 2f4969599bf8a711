-- Two kinds of index give the same replies, line by line, where neither is refused for surplus.
use Rattle.std.proofs.Common.{◌≡◌, ℕ, List, [], ◌∷◌, Some, None, Option, sym, refl, ap, ◌∙◌, subst, ap₂, inl, inr}
use Rattle.bookfile.specs.Files.{count_in, derivations_in}
use Rattle.index.specs.Builds.{rule}
use Rattle.history.specs.Answers.{Answer, Told}
use Rattle.history.specs.Events.{History, happened}
use Rattle.history.specs.Laws.{LawfulHistory}
use Rattle.history.specs.Made.{answer_to}
use Rattle.history.proofs.Histories.{lawful_by_kinds}
use Rattle.history.proofs.Kept.{kept_lawful}
use Rattle.history.proofs.Made.{answer_lawful}
use Rattle.lines.specs.declared.form.Form.{Form}
use Rattle.lines.specs.Computed.{form_of}
use Rattle.lines.specs.Forms.{call_of}
use Rattle.lines.specs.Lines.{lines_of}
use Rattle.lines.specs.Replies.{Reply, reply_of, told}
use Rattle.lines.proofs.Replies.{told_same}
use Rattle.shop.specs.Loads.{entries}
use Rattle.orderfile.specs.declared.day.DayFault.{DayFault}
use Rattle.orderfile.specs.Days.{day_fault, reply_to, behind, replies, day_replies, printed_by, printed}
use Rattle.orderfile.specs.Laws.{NoneForSurplus, DaysAgree}
use Rattle.orderfile.proofs.Lawful.{lawful_start, lawful_behind}

abbrev NotEight : Reply → Type 0
NotEight r = (told r).number ≡ Some 8 → ⊥

module _ (n c d work : ℕ) where
  -- one line, after the same history
  line_agrees : (h : History) → LawfulHistory n (rule c) h → (o : Option Form) → NotEight (reply_to n (rule c) work h o) → NotEight (reply_to n (rule d) work h o)
      → (reply_to n (rule c) work h o ≡ reply_to n (rule d) work h o) × (behind n (rule c) work h o ≡ behind n (rule d) work h o)
  line_agrees h l None x y = (refl, refl)
  line_agrees h l (Some f) x y =
      let es = happened h in
      let call = call_of work f in
      let a = answer_to n (rule c) es call in
      let b = answer_to n (rule d) es call in
      let k = kept_lawful n (rule c) h l in
      let same : a ≡ b = lawful_by_kinds n c d (rule c) (rule d) (λ m R w. refl) (λ m R w. refl) es call a b (answer_lawful n es k (rule c) call) (answer_lawful n es k (rule d) call)
      (λ e. x (ap (λ (t : Told). t.number) (told_same a) ∙ e)) (λ e. y (ap (λ (t : Told). t.number) (told_same b) ∙ e)) in
      (ap reply_of same, ap (λ (z : Answer). (call, z) ∷ h) same)

  lines_agree : (h : History) → LawfulHistory n (rule c) h → (ls : List (List ℕ)) → NoneForSurplus (replies n (rule c) work h ls) → NoneForSurplus (replies n (rule d) work h ls)
      → replies n (rule c) work h ls ≡ replies n (rule d) work h ls
  lines_agree h l [] x y = refl
  lines_agree h l (b ∷ ls) x y =
      let o = form_of b in
      let p = line_agrees h l o (x (reply_to n (rule c) work h o) (inl refl)) (y (reply_to n (rule d) work h o) (inl refl)) in
      let rest = lines_agree (behind n (rule c) work h o) (lawful_behind n (rule c) work h o l) ls (λ r i. x r (inr i))
      (subst (λ (g : History). NoneForSurplus (replies n (rule d) work g ls)) (sym p.1) (λ r i. y r (inr i))) in
      ap₂ (λ (r : Reply) (rs : List Reply). r ∷ rs) p.0 (rest ∙ ap (λ (g : History). replies n (rule d) work g ls) p.1)

replies_agree : (c d work : ℕ) (book orders : List ℕ) → day_fault book orders ≡ None → NoneForSurplus (day_replies c work book orders) → NoneForSurplus (day_replies d work book orders)
    → day_replies c work book orders ≡ day_replies d work book orders
replies_agree c d work book orders e x y = lines_agree (count_in book) c d work (entries (derivations_in book)) (lawful_start c book orders e) (lines_of orders) x y

printed_agree : (c d work : ℕ) (book orders : List ℕ) (o : Option DayFault) → day_fault book orders ≡ o → NoneForSurplus (day_replies c work book orders) → NoneForSurplus (day_replies d work book orders)
    → printed_by o (day_replies c work book orders) ≡ printed_by o (day_replies d work book orders)
printed_agree c d work book orders None e x y = ap (printed_by None) (replies_agree c d work book orders e x y)
printed_agree c d work book orders (Some f) e x y = refl

pub days_agree : DaysAgree
unfolding printed
days_agree = record {
  replies = replies_agree;
  printed = λ c d work book orders x y. printed_agree c d work book orders (day_fault book orders) refl x y;
}
