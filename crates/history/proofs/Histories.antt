-- Lawful histories: one more call, and that their answers are decided.
use Rattle.std.proofs.Common.{◌≡◌, ℕ, Bool, true, false, cond, ltb, List, [], ◌∷◌, ◌++◌, map, Some, None, Option, sym, refl, ap, ◌∙◌, subst, inl, inr}
use Rattle.std.specs.Option.{option_map}
use Rattle.lineage.specs.Lists.{◌∈◌}
use Rattle.lineage.specs.Book.{surplus}
use Rattle.index.specs.declared.fault.IndexFault.TheVariants.{WorkTooShort, TooMuchSurplus}
use Rattle.index.specs.Builds.{rule}
use Rattle.history.specs.declared.call.Call.{Call}
use Rattle.history.specs.declared.call.Call.TheVariants.{Enter, Strike, Index, Hold, Release, Order}
use Rattle.history.specs.declared.fault.ShopFault.{ShopFault}
use Rattle.history.specs.declared.fault.ShopFault.TheVariants.{Index as OfIndex}
use Rattle.history.specs.Faults.{number}
use Rattle.history.specs.Answers.{Answer, refused, told}
use Rattle.history.specs.Events.{Event, History, happened}
use Rattle.history.specs.Standing.{stands}
use Rattle.history.specs.Table.{Refuses, refusal}
use Rattle.history.specs.Laws.{ordered, Lawful, LawfulHistory}
use Rattle.history.specs.Theorems.{calls, answers, SameAnswers, AnswersAreDecided, Ruled, KindsAgree}
use Rattle.history.proofs.Orders.{decided}

module _ (n : ℕ) (refuses : Refuses) where
  no_call : (after before : History) (call : Call) (a : Answer) → ◌≡◌ {A = History} [] (after ++ (call, a) ∷ before) → ⊥
  no_call [] before call a e = cc
  no_call (x ∷ after) before call a e = cc

  pub lawful_none : LawfulHistory n refuses []
  lawful_none = record { each = λ after before call a e. absurd (no_call after before call a e) }

  abbrev newest_lawful : History → Type 0
  newest_lawful [] = Unit {0}
  newest_lawful ((call, a) ∷ before) = Lawful n refuses (happened before) call a

  each_more : (h : History) (call : Call) (a : Answer) → Lawful n refuses (happened h) call a → LawfulHistory n refuses h
      → (after before : History) (c : Call) (b : Answer) → ◌≡◌ {A = History} ((call, a) ∷ h) (after ++ (c, b) ∷ before) → Lawful n refuses (happened before) c b
  each_more h call a l rest [] before c b e = subst newest_lawful e l
  each_more h call a l rest (x ∷ after) before c b e = rest.each after before c b cc

  pub lawful_more : (h : History) (call : Call) (a : Answer) → Lawful n refuses (happened h) call a → LawfulHistory n refuses h → LawfulHistory n refuses ((call, a) ∷ h)
  lawful_more h call a l rest = record { each = each_more h call a l rest }

  -- the newest call was answered lawfully, and so were those before it
  pub lawful_newest : (h : History) (call : Call) (a : Answer) → LawfulHistory n refuses ((call, a) ∷ h) → Lawful n refuses (happened h) call a
  lawful_newest h call a l = l.each [] h call a refl

  pub lawful_before : (h : History) (made : Call × Answer) → LawfulHistory n refuses (made ∷ h) → LawfulHistory n refuses h
  lawful_before h made l = record { each = λ after before call a e. l.each (made ∷ after) before call a (ap (λ (x : History). made ∷ x) e) }

-- two histories, of which each answer is good, and of good answers to one call there is but one
module _ (n : ℕ) (r s : Refuses) (Good : Answer → Type 0)
    (one : (es : List Event) (call : Call) (a b : Answer) → Lawful n r es call a → Lawful n s es call b → Good a → Good b → a ≡ b) where
  same_histories : (g h : History) → calls g ≡ calls h → LawfulHistory n r g → LawfulHistory n s h
      → ((a : Answer) → a ∈ answers g → Good a) → ((a : Answer) → a ∈ answers h → Good a) → g ≡ h
  same_histories [] [] e k l x y = refl
  same_histories [] (made ∷ h) e k l x y = cc
  same_histories (made ∷ g) [] e k l x y = cc
  same_histories (made ∷ g) (again ∷ h) e k l x y =
      let call : made.0 ≡ again.0 = cc in
      let rest : calls g ≡ calls h = cc in
      let before : g ≡ h = same_histories g h rest (lawful_before n r g made k) (lawful_before n s h again l) (λ a i. x a (inr i)) (λ a i. y a (inr i)) in
      let first : Lawful n r (happened h) again.0 made.1 =
      subst (λ (c : Call). Lawful n r (happened h) c made.1) call
      (subst (λ (t : History). Lawful n r (happened t) made.0 made.1) before (lawful_newest n r g made.0 made.1 k)) in
      let answer : made.1 ≡ again.1 = one (happened h) again.0 made.1 again.1 first (lawful_newest n s h again.0 again.1 l) (x made.1 (inl refl)) (y again.1 (inl refl)) in
      λ i. (call i, answer i) ∷ before i

same_answers : (g h : History) → g ≡ h → SameAnswers g h
same_answers g h e = record { values = ap answers e; told = ap (λ (x : History). map told (answers x)) e }

module _ (n : ℕ) (es : List Event) where
  -- two indexes that refuse alike are owed the same refusals
  refused_alike : (r s : Refuses) → ((R : ℕ → ℕ → Bool) (work : ℕ) → r n R work ≡ s n R work) → (call : Call) → refusal n r es call ≡ refusal n s es call
  refused_alike r s e (Enter d) = refl
  refused_alike r s e (Strike d) = refl
  refused_alike r s e (Index work) = ap (option_map OfIndex) (e (stands es) work)
  refused_alike r s e (Hold m p) = refl
  refused_alike r s e (Release m p) = refl
  refused_alike r s e (Order m) = refl

  pub lawful_alike : (r s : Refuses) → ((R : ℕ → ℕ → Bool) (work : ℕ) → r n R work ≡ s n R work) → (call : Call) (a b : Answer) → Lawful n r es call a → Lawful n s es call b → a ≡ b
  lawful_alike r s e call a b k l = decided (ordered call) es a b (refusal n s es call) (k.table ∙ refused_alike r s e call) l.table k.granted l.granted

pub decided_histories : (n : ℕ) (r s : Refuses) (g h : History) → ((R : ℕ → ℕ → Bool) (work : ℕ) → r n R work ≡ s n R work) → calls g ≡ calls h → LawfulHistory n r g → LawfulHistory n s h → g ≡ h
decided_histories n r s g h e c k l = same_histories n r s (λ a. Unit {0}) (λ es call a b x y t u. lawful_alike n es r s e call a b x y) g h c k l (λ a i. tt) (λ a i. tt)

pub answers_are_decided : AnswersAreDecided
answers_are_decided = record {
  one = λ n refuses es call a b k l. lawful_alike n es refuses refuses (λ R w. refl) call a b k l;
  all = λ n r s g h e c k l. same_answers g h (decided_histories n r s g h e c k l);
}

-- what the rule refuses with, but for 8
abbrev told_number : Option ShopFault → Option ℕ
told_number o = option_map number o

but_eight : (x y : Bool) (found capacity : ℕ) (o : Option ShopFault) → o ≡ option_map OfIndex (cond x (Some WorkTooShort) (cond y (Some (TooMuchSurplus found capacity)) None))
    → (told_number o ≡ Some 8 → ⊥) → o ≡ option_map OfIndex (cond x (Some WorkTooShort) None)
but_eight true y found capacity o e never = e
but_eight false true found capacity o e never = absurd (never (ap told_number e))
but_eight false false found capacity o e never = e

ruled_refusal : (n capacity : ℕ) (R : ℕ → ℕ → Bool) (work : ℕ) (o : Option ShopFault) → o ≡ option_map OfIndex (rule capacity n R work)
    → (told_number o ≡ Some 8 → ⊥) → o ≡ option_map OfIndex (cond (ltb work 32768) (Some WorkTooShort) None)
unfolding rule
ruled_refusal n capacity R work o e never = but_eight (ltb work 32768) (ltb capacity (surplus n R)) (surplus n R) capacity o e never

module _ (n c d : ℕ) (r s : Refuses) (x : Ruled c r) (y : Ruled d s) (es : List Event) where
  refused_by_kinds : (call : Call) (a b : Answer) → refused a ≡ refusal n r es call → refused b ≡ refusal n s es call
      → ((told a).number ≡ Some 8 → ⊥) → ((told b).number ≡ Some 8 → ⊥) → refused a ≡ refused b
  refused_by_kinds (Enter d) a b p q t u = p ∙ sym q
  refused_by_kinds (Strike d) a b p q t u = p ∙ sym q
  refused_by_kinds (Index work) a b p q t u =
      ruled_refusal n c (stands es) work (refused a) (p ∙ ap (option_map OfIndex) (x n (stands es) work)) t
      ∙ sym (ruled_refusal n d (stands es) work (refused b) (q ∙ ap (option_map OfIndex) (y n (stands es) work)) u)
  refused_by_kinds (Hold m h) a b p q t u = p ∙ sym q
  refused_by_kinds (Release m h) a b p q t u = p ∙ sym q
  refused_by_kinds (Order m) a b p q t u = p ∙ sym q

  pub lawful_by_kinds : (call : Call) (a b : Answer) → Lawful n r es call a → Lawful n s es call b → ((told a).number ≡ Some 8 → ⊥) → ((told b).number ≡ Some 8 → ⊥) → a ≡ b
  lawful_by_kinds call a b k l t u = decided (ordered call) es a b (refused b) (refused_by_kinds call a b k.table l.table t u) refl k.granted l.granted

pub kinds_agree : KindsAgree
kinds_agree n c d r s g h x y e k l p q =
    same_answers g h (same_histories n r s (λ a. (told a).number ≡ Some 8 → ⊥) (λ es call a b i j t u. lawful_by_kinds n c d r s x y es call a b i j t u) g h e k l p q)
