-- Derivations that are valid, entered in turn into an empty book, are none of them refused, and stand as they are.
use Rattle.std.proofs.Common.{◌≡◌, ℕ, ◌<◌, ◌≤◌, true, false, List, [], ◌∷◌, ◌++◌, length, None, Ok, Option, sym, ap, ◌∙◌, append_assoc, append-nil, arith, length-append}
use Rattle.std.proofs.lemmas.Bool.{and_parts}
use Rattle.std.proofs.lemmas.Grind.{common_steps}
use Rattle.rising.specs.Lists.{rising, insert, stands}
use Rattle.rising.proofs.Edits.{insert_last, stands_last}
use Rattle.rising.proofs.Place.{rises_from_rising, above_each_last}
use Rattle.book.specs.declared.derivation.Derivation.{Derivation}
use Rattle.book.specs.declared.refusal.Refusal.{Refusal}
use Rattle.book.specs.Order.{by_models}
use Rattle.book.specs.Refusals.{unless}
use Rattle.book.specs.Derivations.{proper, all_proper, Valid}
use Rattle.book.specs.Books.{entry_refusal, in_turn}
use Rattle.book.proofs.Derivations.{models_order, proper_to}

-- one more that is in order
accepted : (n : ℕ) (ds : List Derivation) (d : Derivation) → length ds < 2048 → stands by_models ds d ≡ false → proper n d ≡ true → entry_refusal n ds d ≡ None
accepted n ds d few s p = let o = proper_to n d p in grind (arith, common_steps)

module _ (n : ℕ) where
  turns : (ds es : List Derivation) → rising by_models (ds ++ es) ≡ true → length (ds ++ es) ≤ 2048 → all_proper n es ≡ true → in_turn n ds es ≡ Ok (ds ++ es)
  turns ds [] up few p = ap Ok (sym (append-nil ds))
  turns ds (e ∷ es) up few p =
      let parts = and_parts (proper n e) (all_proper n es) p in
      let above = above_each_last by_models ds e es (rises_from_rising by_models models_order (ds ++ e ∷ es) up) in
      let again : (ds ++ e ∷ []) ++ es ≡ ds ++ e ∷ es = append_assoc ds (e ∷ []) es in
      ap (λ (o : Option Refusal). unless o (in_turn n (insert by_models ds e) es)) (accepted n ds e (omega (arith, length-append ds (e ∷ es))) (stands_last by_models ds e above) parts.0)
      ∙ ap (λ (xs : List Derivation). in_turn n xs es) (insert_last by_models ds e above)
      ∙ turns (ds ++ e ∷ []) es (ap (rising by_models) again ∙ up) (omega (arith, ap length again)) parts.1
      ∙ ap Ok again

  pub valid_turns : (ds : List Derivation) → Valid n ds → in_turn n [] ds ≡ Ok ds
  valid_turns ds v = turns [] ds v.rises v.few v.proper
