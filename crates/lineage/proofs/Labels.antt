-- The parts of a label are what they are said to be. Assumes nothing.
use Rattle.std.proofs.Common.{◌≡◌, ℕ, zero, suc, ◌<◌, ◌≤◌, Bool, true, false, eqb, ltb, ◌↔◌, length, get_or, Some, None, Option, sym, refl, ap, ◌∙◌, subst, inl, inr, arith}
use Rattle.std.proofs.lemmas.Bool.{true≢false, ltb-true, ltb-false}
use Rattle.lineage.specs.Finite.{Chain, none, step, Within}
use Rattle.lineage.specs.Lists.{◌∈◌, place}
use Rattle.lineage.specs.Closure.{linked, X, Y}
use Rattle.lineage.specs.Book.{leads, parent, tree, start, end, link, links, incoming, nearest, label_x, label_y, label_z}
use Rattle.lineage.specs.Theorems.{Nearest, LabelIsExact, LabelsAreExact}
use Rattle.lineage.proofs.Numbers.{count_fits, count_has}
use Rattle.lineage.proofs.Reach.{chain_trans}
use Rattle.lineage.proofs.Closure.{in_Y, X_rises, Y_rises}
use Rattle.lineage.proofs.Forest.{up_last, up_anti}
use Rattle.lineage.proofs.Groups.{rank, leads_whole}
use Rattle.lineage.proofs.Tree.{forest, tree_whole, tree_within}
use Rattle.lineage.proofs.Links.{incoming_hit, incoming_some, in_links}
use Rattle.lineage.proofs.Places.{none_some, place_least, place_none, place_of, place_stands}

-- what `nearest` gives
abbrev pub Near : (n : ℕ) (R : ℕ → ℕ → Bool) → ℕ → Option ℕ → Type 0
Near n R g None = (w a : ℕ) → Chain (tree n R) w g → link n R a w ≡ true → ⊥
Near n R g (Some w) = Nearest n R g w

module _ (n : ℕ) (R : ℕ → ℕ → Bool) (within : Within n R) where
  near_up : (g : ℕ) → ((a : ℕ) → link n R a g ≡ true → ⊥) → parent n R g < n → (o : Option ℕ) → Near n R (parent n R g) o → Near n R g o
  near_up g off m None h = λ w a c k. elim (up_last n (parent n R) (tree n R) (rank n R) (forest n R within) c) [
    | inl e ↦ off a (subst (λ x. link n R a x ≡ true) e k)
    | inr t ↦ h w a t.0 k
  ]
  near_up g off m (Some w) h = record {
    at_or_above = chain_trans (tree n R) h.at_or_above (step (tree_whole n R within g m) none);
    incoming = h.incoming;
    nearest = λ v a c k. elim (up_last n (parent n R) (tree n R) (rank n R) (forest n R within) c) [
      | inl e ↦ absurd (off a (subst (λ x. link n R a x ≡ true) e k))
      | inr t ↦ h.nearest v a t.0 k
    ];
  }

  near_pick : (g : ℕ) (b c : Bool) → incoming n R g ≡ b → ltb (parent n R g) n ≡ c → (o : Option ℕ) → (parent n R g < n → Near n R (parent n R g) o) →
      Near n R g (elim b [ true ↦ Some g | false ↦ elim c [ true ↦ o | false ↦ None ] ])
  near_pick g true c e f o h = record { at_or_above = none; incoming = incoming_some n R within g e; nearest = λ v a z k. z }
  near_pick g false true e f o h =
      let m = ltb-true (parent n R g) n f in
      near_up g (λ a k. true≢false (sym (incoming_hit n R within a g k) ∙ e)) m o (h m)
  near_pick g false false e f o h = λ w a c k. elim (up_last n (parent n R) (tree n R) (rank n R) (forest n R within) c) [
    | inl s ↦ true≢false (sym (incoming_hit n R within a g (subst (λ x. link n R a x ≡ true) s k)) ∙ e)
    | inr t ↦ omega (arith, ltb-false (parent n R g) n f, (tree_within n R within (parent n R g) g t.1).0)
  ]

  near_to : (k g : ℕ) → g < n → rank n R g ≤ k → Near n R g (nearest n R k g)
  unfolding nearest
  near_to zero g l r = absurd (omega (arith, count_has n (λ h. leads n R h g) g l (leads_whole n R within none)))
  near_to (suc k) g l r = near_pick g (incoming n R g) (ltb (parent n R g) n) refl refl (nearest n R k (parent n R g))
      (λ m. near_to k (parent n R g) m (omega (arith, (forest n R within).rises (parent n R g) g (tree_whole n R within g m))))

  pub near_is : (g : ℕ) → g < n → Near n R g (nearest n R n g)
  near_is g l = near_to n g l (count_fits n (λ h. leads n R h g))

  pub nearest_unique : (g v w : ℕ) → Nearest n R g v → Nearest n R g w → v ≡ w
  nearest_unique g v w s t =
      up_anti n (parent n R) (tree n R) (rank n R) (forest n R within)
      (t.nearest v s.incoming.0 s.at_or_above s.incoming.1) (s.nearest w t.incoming.0 t.at_or_above t.incoming.1)

  pub incoming_in_Y : (a w : ℕ) → link n R a w ≡ true → start n R w ∈ Y (links n R)
  incoming_in_Y a w k = in_Y (links n R) (linked (in_links n R within a w k))

  -- the third part
  abbrev z_of : Option ℕ → Option ℕ
  z_of o = elim o [ Some w ↦ place (eqb (start n R w)) (Y (links n R)) | None ↦ None ]

  some_z : (g q : ℕ) (o : Option ℕ) → Near n R g o →
      (z_of o ≡ Some q) ↔ ((w : ℕ) × Nearest n R g w × (q < length (Y (links n R))) × (get_or (Y (links n R)) q 0 ≡ start n R w))
  some_z g q None h = (
    λ e. absurd (none_some e),
    λ r. let s : Nearest n R g r.0 = r.1 in absurd (h r.0 s.incoming.0 s.at_or_above s.incoming.1),
  )
  some_z g q (Some w) h =
      let p = place_of (Y (links n R)) (Y_rises (links n R)) (start n R w) q in (
        λ e. let r = p.0 e in (w, h, r.0, r.1),
        λ r. p.1 (r.2, r.3 ∙ ap (start n R) (sym (nearest_unique g w r.0 h r.1))),
      )

  none_z : (g : ℕ) (o : Option ℕ) → Near n R g o → (z_of o ≡ None) ↔ ((w a : ℕ) → Chain (tree n R) w g → link n R a w ≡ true → ⊥)
  none_z g None h = (λ e. h, λ f. refl)
  none_z g (Some w) h = (
    λ e. absurd (place_stands (Y (links n R)) (Y_rises (links n R)) (start n R w) (incoming_in_Y h.incoming.0 w h.incoming.1) e),
    λ f. absurd (f w h.incoming.0 h.at_or_above h.incoming.1),
  )

  pub label_exact : (g : ℕ) → g < n → LabelIsExact n R g
  unfolding label_x label_y label_z
  label_exact g l = record {
    x_some = place_least (X (links n R)) (X_rises (links n R)) (start n R g);
    x_none = place_none (X (links n R)) (X_rises (links n R)) (start n R g);
    y_some = place_least (X (links n R)) (X_rises (links n R)) (end n R g);
    y_none = place_none (X (links n R)) (X_rises (links n R)) (end n R g);
    z_some = λ q. some_z g q (nearest n R n g) (near_is g l);
    z_none = none_z g (nearest n R n g) (near_is g l);
  }

  pub labels_exact : LabelsAreExact n R
  labels_exact = record { of_group = λ g l e. label_exact g l }
