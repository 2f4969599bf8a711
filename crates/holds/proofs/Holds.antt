-- Lists of holds: the hold on a model found, one more placed, and one released; and two sheets whose fields are the same are the same.
use Rattle.std.proofs.Common.{◌≡◌, ℕ, zero, suc, ◌+◌, ◌<◌, ◌≤◌, true, false, cond, not, ◌||◌, eqb, List, [], ◌∷◌, ◌++◌, length, get_or, take, Some, None, Option, sym, refl, ap, ◌∙◌, subst, inl, inr, arith}
use mathlib.Core.Path.{to_path_p}
use denote.Struct.Props.{props}
use Rattle.std.specs.List.{remove, position, position_from}
use Rattle.std.specs.Option.{is_some}
use Rattle.std.proofs.lemmas.List.{take_more}
use Rattle.std.proofs.lemmas.Option.{none-some, same_Some}
use Rattle.std.proofs.lemmas.Iterator.Adapters.{position_from-zero}
use Rattle.std.proofs.lemmas.Bool.{and_parts, and_from, or_parts, or_from, or_cases, or_left, or_right, not-true, not_from_false, cases_Bool, cond-true, cond-false, eq-eqb, both_ways, ne_eqb, eqb-false, lt-ltb, le-ltb}
use Rattle.holds.specs.declared.fault.HoldFault.TheVariants.{SheetFull, NotOnHold, AnothersHold}
use Rattle.holds.specs.declared.sheet.Hold.{Hold}
use Rattle.holds.specs.declared.sheet.HoldSheet.{HoldSheet}
use Rattle.holds.specs.Holds.{held, holder_of, apart, released}
use Rattle.holds.specs.Sheets.{place_fault, release_fault}

pub same_sheet : (a b : HoldSheet) → a.holds ≡ b.holds → a ≡ b
same_sheet a b p =
    let f : IsProp (length b.holds.items ≤ 64) = hlevel props in
    let g : IsProp (apart b.holds.items ≡ true) = hlevel props in
    λ i. record {
      holds = p i;
      few = to_path_p (λ j. length (p j).items ≤ 64) {a = a.few} {b = b.few} (f _ _) i;
      apart = to_path_p (λ j. apart (p j).items ≡ true) {a = a.apart} {b = b.apart} (g _ _) i;
    }

module _ (m : ℕ) where
  held_append : (hs ks : List Hold) → held hs m ≡ false → held ks m ≡ false → held (hs ++ ks) m ≡ false
  held_append [] ks p q = q
  held_append (h ∷ hs) ks p q =
      let a = or_parts (eqb h.model m) (held hs m) p in
      or_from (eqb h.model m) (held (hs ++ ks) m) a.0 (held_append hs ks a.1 q)

  -- one more that is not on the model
  pub held_more : (hs : List Hold) (i : ℕ) (d : Hold) → i < length hs → held (take i hs) m ≡ false → eqb (get_or hs i d).model m ≡ false → held (take (i + 1) hs) m ≡ false
  held_more hs i d h p q = ap (λ (xs : List Hold). held xs m) (take_more hs i d h) ∙ held_append (take i hs) (get_or hs i d ∷ []) p (or_from (eqb (get_or hs i d).model m) false q refl)

  pub missing_holder : (hs : List Hold) → held hs m ≡ false → holder_of hs m ≡ None
  missing_holder [] p = refl
  missing_holder (h ∷ hs) p =
      let a = or_parts (eqb h.model m) (held hs m) p in
      cond-false (eqb h.model m) (Some h.holder) (holder_of hs m) a.0 ∙ missing_holder hs a.1

  held_from : (i : ℕ) (hs : List Hold) → is_some (position_from (λ (h : Hold). eqb h.model m) i hs) ≡ held hs m
  held_from i [] = refl
  held_from i (h ∷ hs) = elim (eqb h.model m) as (λ b. is_some (cond b (Some i) (position_from (λ (k : Hold). eqb k.model m) (i + 1) hs)) ≡ b || held hs m) [
    | true ↦ refl
    | false ↦ held_from (i + 1) hs
  ]

  -- what the hold at a place tells, if it is the first on the model
  pub record Tells (hs : List Hold) (d : Hold) (j : ℕ) : Type 0 where
    pub within : j < length hs
    pub who : holder_of hs m ≡ Some (get_or hs j d).holder
    pub rest : released hs m ≡ remove hs j

  found_from : (i : ℕ) (hs : List Hold) (k : ℕ) (d : Hold) → position_from (λ (h : Hold). eqb h.model m) i hs ≡ Some k → (j : ℕ) × (k ≡ i + j) × Tells hs d j
  found_from i [] k d e = absurd (none-some k e)
  found_from i (h ∷ hs) k d e = elim (cases_Bool (eqb h.model m)) [
    | inl t ↦ (
        let f : Some i ≡ Some k = rw t at e in
        (zero, omega (arith, same_Some i k f), record { within = omega arith; who = cond-true (eqb h.model m) (Some h.holder) (holder_of hs m) t; rest = cond-true (eqb h.model m) hs (h ∷ released hs m) t })
        )
    | inr t ↦ (
        let f = rw t at e in
        let r = found_from (i + 1) hs k d f in
        let l = r.2.within in
        let same = r.1 in
        (suc r.0, omega arith, record { within = omega arith; who = cond-false (eqb h.model m) (Some h.holder) (holder_of hs m) t ∙ r.2.who; rest = cond-false (eqb h.model m) hs (h ∷ released hs m) t ∙ ap (λ (xs : List Hold). h ∷ xs) r.2.rest })
        )
  ]

  pub held_position : (hs : List Hold) → is_some (position (λ (h : Hold). eqb h.model m) hs) ≡ held hs m
  held_position hs = ap (λ (o : Option ℕ). is_some o) (position_from-zero (λ (h : Hold). eqb h.model m) hs) ∙ held_from 0 hs

  pub missing : (hs : List Hold) → None ≡ position (λ (h : Hold). eqb h.model m) hs → held hs m ≡ false
  missing hs e = sym (held_position hs) ∙ ap (λ (o : Option ℕ). is_some o) (sym e)

  pub found : (hs : List Hold) (k : ℕ) (d : Hold) → Some k ≡ position (λ (h : Hold). eqb h.model m) hs → Tells hs d k
  found hs k d e =
      let r = found_from 0 hs k d (sym (e ∙ position_from-zero (λ (h : Hold). eqb h.model m) hs)) in
      let same : r.0 ≡ k = omega (arith, r.1) in
      subst (Tells hs d) same r.2

  -- what placing and releasing a hold is refused with, and where it is not
  pub full_fault : (hs : List Hold) → held hs m ≡ false → length hs ≡ 64 → place_fault hs m ≡ Some SheetFull
  full_fault hs p n = rw (p, le-ltb (length hs) 64 (omega arith)) refl

  pub free_fault : (hs : List Hold) → held hs m ≡ false → length hs < 64 → place_fault hs m ≡ None
  free_fault hs p n = rw (p, lt-ltb (length hs) 64 n) refl

  pub missing_fault : (hs : List Hold) (p : ℕ) → held hs m ≡ false → release_fault (holder_of hs m) p ≡ Some NotOnHold
  missing_fault hs p e = ap (λ (o : Option ℕ). release_fault o p) (missing_holder hs e)

  pub others_fault : (hs : List Hold) (p at : ℕ) (d : Hold) → Tells hs d at → ((get_or hs at d).holder ≡ p → ⊥) → release_fault (holder_of hs m) p ≡ Some AnothersHold
  others_fault hs p at d t n = ap (λ (o : Option ℕ). release_fault o p) t.who ∙ rw (ne_eqb (get_or hs at d).holder p n) refl

  pub own_fault : (hs : List Hold) (p at : ℕ) (d : Hold) → Tells hs d at → (get_or hs at d).holder ≡ p → release_fault (holder_of hs m) p ≡ None
  own_fault hs p at d t e = ap (λ (o : Option ℕ). release_fault o p) t.who ∙ rw (eq-eqb (get_or hs at d).holder p e) refl

-- whoever is on hold after a release was on hold before
released_held : (hs : List Hold) (m x : ℕ) → held (released hs m) x ≡ true → held hs x ≡ true
released_held [] m x = λ p. p
released_held (h ∷ hs) m x =
    elim (eqb h.model m) as (λ q. held (cond q hs (h ∷ released hs m)) x ≡ true → held (h ∷ hs) x ≡ true) [
      | true ↦ (λ p. or_right (eqb h.model x) (held hs x) p)
      | false ↦ (λ p. elim (or_cases (eqb h.model x) (held (released hs m) x) p) [ inl e ↦ or_left (eqb h.model x) (held hs x) e | inr e ↦ or_right (eqb h.model x) (held hs x) (released_held hs m x e) ])
    ]

free : (hs : List Hold) (m x : ℕ) → held hs x ≡ false → held (released hs m) x ≡ false
free hs m x p = elim (cases_Bool (held (released hs m) x)) [ inl e ↦ absurd (both_ways (held hs x) p (released_held hs m x e)) | inr e ↦ e ]

-- holds on different models stay so, with one more on a free model, and with one released
pub apart_released : (hs : List Hold) (m : ℕ) → apart hs ≡ true → apart (released hs m) ≡ true
apart_released [] m p = p
apart_released (h ∷ hs) m p =
    let a = and_parts (not (held hs h.model)) (apart hs) p in
    elim (eqb h.model m) as (λ q. apart (cond q hs (h ∷ released hs m)) ≡ true) [
      | true ↦ a.1
      | false ↦ and_from (not (held (released hs m) h.model)) (apart (released hs m)) (not_from_false (held (released hs m) h.model) (free hs m h.model (not-true (held hs h.model) a.0))) (apart_released hs m a.1)
    ]

pub apart_placed : (hs : List Hold) (k : Hold) → held hs k.model ≡ false → apart hs ≡ true → apart (hs ++ k ∷ []) ≡ true
apart_placed [] k p a = refl
apart_placed (h ∷ hs) k p a =
    let q = or_parts (eqb h.model k.model) (held hs k.model) p in
    let b = and_parts (not (held hs h.model)) (apart hs) a in
    let other : eqb k.model h.model ≡ false = turned h.model k.model q.0 in
    and_from (not (held (hs ++ k ∷ []) h.model)) (apart (hs ++ k ∷ [])) (not_from_false (held (hs ++ k ∷ []) h.model) (held_append h.model hs (k ∷ []) (not-true (held hs h.model) b.0) (or_from (eqb k.model h.model) false other refl))) (apart_placed hs k q.1 b.1)
  where
    turned : (x y : ℕ) → eqb x y ≡ false → eqb y x ≡ false
    turned x y e = ne_eqb y x (λ f. eqb-false x y e (sym f))
