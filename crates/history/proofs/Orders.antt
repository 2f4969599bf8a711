-- An order: carve and stop answer it by the law, and no other answer does.
use Rattle.std.proofs.Common.{◌≡◌, ℕ, zero, suc, ◌<◌, true, List, Some, None, Ok, Err, Option, sym, refl, ap, ◌∙◌, subst, inl, inr, arith}
use Rattle.std.proofs.lemmas.Bool.{cases_lt}
use Rattle.history.specs.declared.answer.Outcome.TheVariants.{Done, Carve, Stop}
use Rattle.history.specs.declared.fault.ShopFault.{ShopFault}
use Rattle.history.specs.Answers.{Answer, carved, named, refused}
use Rattle.history.specs.Events.{Event}
use Rattle.history.specs.Laws.{Bars, Free, Lowest, AnswersOrder, Granted}

-- which answer it is, by what it says
pub carve_is : (a : Answer) → carved a ≡ true → a ≡ Ok Carve
carve_is (Ok Done) p = cc
carve_is (Ok Carve) p = refl
carve_is (Ok (Stop s)) p = cc
carve_is (Err f) p = cc

pub stop_is : (a : Answer) (h : ℕ) → named a ≡ Some h → a ≡ Ok (Stop (record { model = h }))
stop_is (Ok Done) h p = cc
stop_is (Ok Carve) h p = cc
stop_is (Ok (Stop s)) h p = let e : s.model ≡ h = cc in ap (λ (x : ℕ). Ok (Stop (record { model = x }))) e
stop_is (Err f) h p = cc

pub refused_is : (a : Answer) (f : ShopFault) → refused a ≡ Some f → a ≡ Err f
refused_is (Ok o) f p = cc
refused_is (Err e) f p = cc

module _ (es : List Event) (m : ℕ) where
  -- the two answers that an order can have
  pub carve_answers : Free es m → AnswersOrder es m (Ok Carve)
  carve_answers free = record {
    carve = ((λ e. free), (λ f. refl));
    stop = λ h. ((λ e. cc), (λ l. absurd (free h l.bars)));
  }

  pub stop_answers : (h : ℕ) → Lowest es m h → AnswersOrder es m (Ok (Stop (record { model = h })))
  stop_answers h l = record {
    carve = ((λ e. cc), (λ f. absurd (f h l.bars)));
    stop = λ k. (
      (λ e. let q : h ≡ k = cc in subst (λ (x : ℕ). Lowest es m x) q l),
      (λ o. let q : h ≡ k = omega (arith, l.lowest k o.bars, o.lowest h l.bars) in ap Some q),
    );
  }

  -- where none is the lowest, there is none
  free_below : ((h : ℕ) → Lowest es m h → ⊥) → (k h : ℕ) → h < k → Bars es m h → ⊥
  free_below none zero h l b = omega arith
  free_below none (suc k) h l b = none h (record {
    bars = b;
    lowest = λ j c. elim (cases_lt j h) [ inl o ↦ absurd (free_below none k j (omega arith) c) | inr o ↦ o ];
  })

  done_answers_none : AnswersOrder es m (Ok Done) → ⊥
  done_answers_none o = let e = o.carve.1 (λ h. free_below (λ k l. let q = (o.stop k).1 l in cc) (suc h) h (omega arith)) in cc

  order_decided : (a b : Answer) → refused a ≡ None → AnswersOrder es m a → AnswersOrder es m b → a ≡ b
  order_decided (Ok Done) b n o p = absurd (done_answers_none o)
  order_decided (Ok Carve) b n o p = sym (carve_is b (p.carve.1 (o.carve.0 refl)))
  order_decided (Ok (Stop s)) b n o p = sym (stop_is b s.model ((p.stop s.model).1 ((o.stop s.model).0 refl)))
  order_decided (Err f) b n o p = cc

granted_decided : (o : Option ℕ) (es : List Event) (a b : Answer) → refused a ≡ None → Granted o es a → Granted o es b → a ≡ b
granted_decided None es a b n p q = p ∙ sym q
granted_decided (Some m) es a b n p q = order_decided es m a b n p q

-- two answers that are refused alike, and else granted alike, are the same
pub decided : (o : Option ℕ) (es : List Event) (a b : Answer) (r : Option ShopFault) → refused a ≡ r → refused b ≡ r → (refused a ≡ None → Granted o es a) → (refused b ≡ None → Granted o es b) → a ≡ b
decided o es a b None p q g h = granted_decided o es a b p (g p) (h q)
decided o es a b (Some f) p q g h = refused_is a f p ∙ sym (refused_is b f q)
