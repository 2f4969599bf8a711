-- The lowest of the models on hold that pass a test.
use Rattle.std.proofs.Common.{◌≡◌, ℕ, ◌≤◌, min, Bool, true, false, ◌&&◌, ◌⊎◌, List, [], ◌∷◌, map, Some, None, Option, refl, ap, subst, inl, inr, arith}
use Rattle.std.specs.Fn.{Mut, Called}
use Rattle.std.specs.Iterator.{ActsAsOnTwo, FoldTurn, ReducesItems}
use Rattle.std.specs.List.{FoldsTo, fold, filter, reduce}
use Rattle.std.proofs.lemmas.Iterator.{YieldsList}
use Rattle.std.proofs.lemmas.Iterator.Consumers.{reduce_from_yields_List}
use Rattle.std.proofs.lemmas.Bool.{cases_Bool, cases_lt}
use Rattle.holds.specs.declared.sheet.Hold.{Hold}
use Rattle.holds.specs.Holds.{held}
use Rattle.shop.specs.Shops.{LowestOf}

-- what the turns of a closure that computes h come to, from one number on
module _ {F : Type 0} (g : Mut F (ℕ × (ℕ × Unit {0})) ℕ) (h : ℕ → ℕ → ℕ) (f : F) (k : ActsAsOnTwo g f h) where
  turns : (xs : List ℕ) (p q : F × ℕ) → p.0 ≡ f → FoldsTo {P = F × ℕ} (FoldTurn g) p xs q → FoldsTo (λ a x b. b ≡ h a x) p.1 xs q.1
  turns [] p q e c = ap (λ w. w.1) c
  turns (x ∷ xs) p q e c =
      let m = k p.1 x c.0.1 c.0.0 (subst (λ w. Called g w (p.1, (x, tt)) c.0.1 c.0.0) e c.1) in
      (c.0.1, m.1, turns xs c.0 q m.0 c.2)

  pub reduced : {S : Type 0} {steps : S → Option ℕ → S → Type 0} {all : List ℕ} (s : S) (r : Option ℕ) → ReducesItems steps g s f r → YieldsList steps (λ x. x) s all → r ≡ reduce h all
  reduced s None c e = reduce_from_yields_List h s None c e
  reduced s (Some y) c e = reduce_from_yields_List h s (Some y) (c.0, c.1, c.3, turns c.1 (f, c.0) (c.2, y) refl c.4) e

module _ (tells : ℕ → Bool) where
  abbrev bars : List Hold → ℕ → Bool
  bars hs m = held hs m && tells m

  abbrev pub passing : List Hold → List ℕ
  passing hs = filter tells (map (λ h. h.model) hs)

  bars_here : (h : Hold) (hs : List Hold) (m : ℕ) → m ≡ h.model → tells h.model ≡ true → bars (h ∷ hs) m ≡ true
  bars_here h hs m e t = grind arith

  bars_more : (h : Hold) (hs : List Hold) (m : ℕ) → bars hs m ≡ true → bars (h ∷ hs) m ≡ true
  bars_more h hs m t = grind arith

  bars_cases : (h : Hold) (hs : List Hold) (m : ℕ) → bars (h ∷ hs) m ≡ true → ((h.model ≡ m) × (tells h.model ≡ true)) ⊎ (bars hs m ≡ true)
  bars_cases h hs m t = grind arith

  -- r is the lowest of a number and of those that pass
  record Least (low : ℕ) (hs : List Hold) (r : ℕ) : Type 0 where
    pub below : r ≤ low
    pub least : (m : ℕ) → bars hs m ≡ true → r ≤ m
    pub one : (r ≡ low) ⊎ (bars hs r ≡ true)

  least_from : (low : ℕ) (hs : List Hold) → Least low hs (fold min low (passing hs))
  least_from low [] = record { below = omega arith; least = λ m t. cc; one = inl refl }
  least_from low (h ∷ hs) =
      elim (cases_Bool (tells h.model)) [
        | inl t ↦ (
            let k = least_from (min low h.model) hs in
            rw t (record {
              below = omega (arith, k.below);
              least = λ m e. elim (bars_cases h hs m e) [ inl p ↦ omega (arith, k.below) | inr o ↦ k.least m o ];
              one = elim k.one [ inl e ↦ elim (cases_lt low h.model) [ inl l ↦ inl (omega arith) | inr l ↦ inr (bars_here h hs _ (omega arith) t) ] | inr o ↦ inr (bars_more h hs _ o) ];
            })
            )
        | inr f ↦ (
            let k = least_from low hs in
            rw f (record {
              below = k.below;
              least = λ m e. elim (bars_cases h hs m e) [ inl p ↦ cc | inr o ↦ k.least m o ];
              one = elim k.one [ inl e ↦ inl e | inr o ↦ inr (bars_more h hs _ o) ];
            })
            )
      ]

  skip : (h : Hold) (hs : List Hold) (o : Option ℕ) → tells h.model ≡ false → LowestOf (bars hs) o → LowestOf (bars (h ∷ hs)) o
  skip h hs None f l = λ m e. elim (bars_cases h hs m e) [ inl p ↦ cc | inr o ↦ l m o ]
  skip h hs (Some r) f l = (bars_more h hs r l.0, λ m e. elim (bars_cases h hs m e) [ inl p ↦ cc | inr o ↦ l.1 m o ])

  pub lowest_of : (hs : List Hold) → LowestOf (bars hs) (reduce min (passing hs))
  lowest_of [] = λ m e. cc
  lowest_of (h ∷ hs) =
      elim (cases_Bool (tells h.model)) [
        | inl t ↦ (
            let k = least_from h.model hs in
            rw t (
              elim k.one [ inl e ↦ bars_here h hs _ e t | inr o ↦ bars_more h hs _ o ],
              λ m e. elim (bars_cases h hs m e) [ inl p ↦ omega (arith, k.below) | inr o ↦ k.least m o ],
            )
            )
        | inr f ↦ rw f (skip h hs (reduce min (passing hs)) f (lowest_of hs))
      ]
