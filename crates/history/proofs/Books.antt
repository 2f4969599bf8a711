-- The book that the events make: it rises, and has exactly what stands.
use Rattle.std.proofs.Common.{◌≡◌, ℕ, true, false, not, ◌&&◌, ◌||◌, List, [], ◌∷◌, sym, refl, ap, ◌∙◌, subst, inl, inr}
use Rattle.std.specs.List.{Contains}
use Rattle.std.proofs.lemmas.Bool.{cases_Bool, true≢false, or_cases, or_left, or_right, and_parts, and_from, not-true, not_from_false}
use Rattle.lineage.proofs.Numbers.{same_tests}
use Rattle.rising.specs.Laws.{Laws}
use Rattle.rising.specs.Lists.{rising, insert, delete}
use Rattle.rising.proofs.Keys.{laws}
use Rattle.book.specs.declared.derivation.Derivation.{Derivation}
use Rattle.book.specs.Order.{by_models}
use Rattle.book.specs.Derivations.{taken_from}
use Rattle.book.proofs.Derivations.{models_order}
use Rattle.book.proofs.Taken.{has_taken, taken_has}
use Rattle.history.specs.Events.{Event, entered, struck, indexed, placed, released}
use Rattle.history.specs.Standing.{is, stands}
use Rattle.history.specs.Lists.{book_of}
use Rattle.history.proofs.Last.{same_derivation, itself}
use Rattle.history.proofs.Steps.{stands_entered, stands_struck}

law : Laws by_models
law = laws by_models models_order

-- what a list has with one more derivation, and with one less
module _ (ds : List Derivation) (up : rising by_models ds ≡ true) (d : Derivation) (u v : ℕ) where
  taken : (xs : List Derivation) → Contains xs (record { from = u; to = v }) → taken_from xs u v ≡ true
  taken xs h = has_taken xs (record { from = u; to = v }) h.0 h.1 h.2

  same : is d u v ≡ true → record { from = u; to = v } ≡ d
  same e = sym (same_derivation d u v e)

  differ : is d u v ≡ false → record { from = u; to = v } ≡ d → ⊥
  differ e f = true≢false (sym (subst (λ (x : Derivation). is x u v ≡ true) f (itself u v)) ∙ e)

  pub taken_insert : taken_from (insert by_models ds d) u v ≡ (is d u v || taken_from ds u v)
  taken_insert = same_tests (taken_from (insert by_models ds d) u v) (is d u v || taken_from ds u v)
      (λ t. elim ((law.insert_has ds d (record { from = u; to = v }) up).0 (taken_has (insert by_models ds d) (record { from = u; to = v }) t)) [
        | inl e ↦ or_left (is d u v) (taken_from ds u v) (subst (λ (x : Derivation). is x u v ≡ true) e (itself u v))
        | inr h ↦ or_right (is d u v) (taken_from ds u v) (taken ds h)
      ])
      (λ t. taken (insert by_models ds d) ((law.insert_has ds d (record { from = u; to = v }) up).1 (elim (or_cases (is d u v) (taken_from ds u v) t) [
        | inl e ↦ inl (same e)
        | inr h ↦ inr (taken_has ds (record { from = u; to = v }) h)
      ])))

  pub taken_delete : taken_from (delete by_models ds d) u v ≡ (not (is d u v) && taken_from ds u v)
  taken_delete = same_tests (taken_from (delete by_models ds d) u v) (not (is d u v) && taken_from ds u v)
      (λ t. let h = (law.delete_has ds d (record { from = u; to = v }) up).0 (taken_has (delete by_models ds d) (record { from = u; to = v }) t) in
      and_from (not (is d u v)) (taken_from ds u v)
      (elim (cases_Bool (is d u v)) [ inl e ↦ absurd (h.0 (same e)) | inr e ↦ not_from_false (is d u v) e ])
      (taken ds h.1))
      (λ t. let p = and_parts (not (is d u v)) (taken_from ds u v) t in
      taken (delete by_models ds d) ((law.delete_has ds d (record { from = u; to = v }) up).1 (differ (not-true (is d u v) p.0), taken_has ds (record { from = u; to = v }) p.1)))

pub book_rises : (es : List Event) → rising by_models (book_of es) ≡ true
unfolding book_of
book_rises [] = refl
book_rises (entered d ∷ es) = law.insert_rises (book_of es) d (book_rises es)
book_rises (struck d ∷ es) = law.delete_rises (book_of es) d (book_rises es)
book_rises (indexed ∷ es) = book_rises es
book_rises (placed m p ∷ es) = book_rises es
book_rises (released m ∷ es) = book_rises es

-- the book has exactly the derivations that stand
pub book_stands : (es : List Event) (u v : ℕ) → taken_from (book_of es) u v ≡ stands es u v
unfolding book_of stands
book_stands [] u v = refl
book_stands (entered d ∷ es) u v = taken_insert (book_of es) (book_rises es) d u v ∙ ap (λ b. is d u v || b) (book_stands es u v) ∙ sym (stands_entered es u v d)
book_stands (struck d ∷ es) u v = taken_delete (book_of es) (book_rises es) d u v ∙ ap (λ b. not (is d u v) && b) (book_stands es u v) ∙ sym (stands_struck es u v d)
book_stands (indexed ∷ es) u v = book_stands es u v
book_stands (placed m p ∷ es) u v = book_stands es u v
book_stands (released m ∷ es) u v = book_stands es u v
