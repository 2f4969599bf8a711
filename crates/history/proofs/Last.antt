-- The last event that passes a test, searched for and in words; so what stands, what is held and what is current, by the last event of it.
use Rattle.std.proofs.Common.{◌≡◌, ℕ, Bool, true, false, eqb, List, [], ◌∷◌, ◌++◌, is_some as option_is_some, Some, None, Option, sym, refl, ap, ◌∙◌, subst, inl, inr, arith}
use Rattle.std.proofs.lemmas.Bool.{cases_Bool, cond-true, cond-false, and_parts, eqb-true}
use Rattle.lineage.specs.Lists.{◌∈◌}
use Rattle.book.specs.declared.derivation.Derivation.{Derivation}
use Rattle.history.specs.Events.{Event, entered, struck, indexed, placed, released}
use Rattle.history.specs.Standing.{is, of_derivation, of_model, of_index, last, is_entry, is_indexing, held_by, stands, held, holder, current, Last}
use Rattle.history.specs.Theorems.{ByTheLastEvent}

pub same_derivation : (d : Derivation) (u v : ℕ) → is d u v ≡ true → d ≡ record { from = u; to = v }
same_derivation d u v e =
    let p = and_parts (eqb d.from u) (eqb d.to v) e in
    let a = eqb-true d.from u p.0 in
    let b = eqb-true d.to v p.1 in
    λ i. record { from = a i; to = b i }

pub itself : (u v : ℕ) → is (record { from = u; to = v }) u v ≡ true
itself u v = grind arith

module _ (speaks : Event → Bool) where
  pub last_of : (es : List Event) (e : Event) → last speaks es ≡ Some e → Last speaks es e
  last_of [] e p = cc
  last_of (x ∷ es) e p =
      elim (cases_Bool (speaks x)) [
        | inl t ↦ (
            let q : x ≡ e = let r = cond-true (speaks x) (Some x) (last speaks es) t in cc in
            record { newer = []; older = es; whole = ap (λ (y : Event). y ∷ es) q; passes = cc; silent = λ f m. absurd m }
            )
        | inr t ↦ (
            let r = last_of es e (sym (cond-false (speaks x) (Some x) (last speaks es) t) ∙ p) in
            record {
              newer = x ∷ r.newer;
              older = r.older;
              whole = ap (λ (ys : List Event). x ∷ ys) r.whole;
              passes = r.passes;
              silent = λ f m. elim m [ inl q ↦ cc | inr k ↦ r.silent f k ];
            }
            )
      ]

  last_at : (newer older : List Event) (e : Event) → speaks e ≡ true → ((f : Event) → f ∈ newer → speaks f ≡ false) → last speaks (newer ++ e ∷ older) ≡ Some e
  last_at [] older e p s = rw p refl
  last_at (x ∷ newer) older e p s = rw (s x (inl refl)) (last_at newer older e p (λ f m. s f (inr m)))

  pub of_last : (es : List Event) (e : Event) → Last speaks es e → last speaks es ≡ Some e
  of_last es e l = ap (last speaks) l.whole ∙ last_at l.newer l.older e l.passes l.silent

-- what the last event is, by what it says
entry_is : (o : Option Event) → is_entry o ≡ true → (d : Derivation) × (o ≡ Some (entered d))
entry_is None p = cc
entry_is (Some (entered d)) p = (d, refl)
entry_is (Some (struck d)) p = cc
entry_is (Some indexed) p = cc
entry_is (Some (placed x q)) p = cc
entry_is (Some (released x)) p = cc

indexing_is : (o : Option Event) → is_indexing o ≡ true → o ≡ Some indexed
indexing_is None p = cc
indexing_is (Some (entered d)) p = cc
indexing_is (Some (struck d)) p = cc
indexing_is (Some indexed) p = refl
indexing_is (Some (placed x q)) p = cc
indexing_is (Some (released x)) p = cc

hold_is : (o : Option Event) (p : ℕ) → held_by o ≡ Some p → (x : ℕ) × (o ≡ Some (placed x p))
hold_is None p e = cc
hold_is (Some (entered d)) p e = cc
hold_is (Some (struck d)) p e = cc
hold_is (Some indexed) p e = cc
hold_is (Some (placed x q)) p e = (x, cc)
hold_is (Some (released x)) p e = cc

pub is_some : {X : Type 0} (o : Option X) → option_is_some o ≡ true → (x : X) × (o ≡ Some x)
is_some None p = cc
is_some (Some x) p = (x, refl)

module _ (es : List Event) where
  stands_last : (u v : ℕ) → stands es u v ≡ true → Last (of_derivation u v) es (entered (record { from = u; to = v }))
  unfolding stands
  stands_last u v p =
      let r = entry_is (last (of_derivation u v) es) p in
      let l = last_of (of_derivation u v) es (entered r.0) r.1 in
      subst (λ (d : Derivation). Last (of_derivation u v) es (entered d)) (same_derivation r.0 u v l.passes) l

  last_stands : (u v : ℕ) → Last (of_derivation u v) es (entered (record { from = u; to = v })) → stands es u v ≡ true
  unfolding stands
  last_stands u v l = ap is_entry (of_last (of_derivation u v) es (entered (record { from = u; to = v })) l)

  holder_last : (m p : ℕ) → holder es m ≡ Some p → Last (of_model m) es (placed m p)
  unfolding holder
  holder_last m p e =
      let r = hold_is (last (of_model m) es) p e in
      let l = last_of (of_model m) es (placed r.0 p) r.1 in
      subst (λ (x : ℕ). Last (of_model m) es (placed x p)) (eqb-true r.0 m l.passes) l

  last_holder : (m p : ℕ) → Last (of_model m) es (placed m p) → holder es m ≡ Some p
  unfolding holder
  last_holder m p l = ap held_by (of_last (of_model m) es (placed m p) l)

  -- a model is held exactly if it has a holder
  pub held_holder : (m : ℕ) → held es m ≡ option_is_some (holder es m)
  unfolding held holder
  held_holder m = refl

  held_last : (m : ℕ) → held es m ≡ true → (p : ℕ) × Last (of_model m) es (placed m p)
  held_last m e = let r = is_some (holder es m) (sym (held_holder m) ∙ e) in (r.0, holder_last m r.0 r.1)

  last_held : (m : ℕ) → (p : ℕ) × Last (of_model m) es (placed m p) → held es m ≡ true
  last_held m l = held_holder m ∙ ap option_is_some (last_holder m l.0 l.1)

  current_last : current es ≡ true → Last of_index es indexed
  unfolding current
  current_last e = last_of of_index es indexed (indexing_is (last of_index es) e)

  last_current : Last of_index es indexed → current es ≡ true
  unfolding current
  last_current l = ap is_indexing (of_last of_index es indexed l)

pub by_the_last_event : ByTheLastEvent
by_the_last_event = record {
  stands = λ es u v. (stands_last es u v, last_stands es u v);
  held = λ es m. (held_last es m, last_held es m);
  holder = λ es m p. (holder_last es m p, last_holder es m p);
  current = λ es. (current_last es, last_current es);
}
