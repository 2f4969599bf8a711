-- Groups and their arcs: the arcs have no cycle, and a chain of models is a chain of groups. Assumes nothing.
use Rattle.std.proofs.Common.{◌≡◌, ℕ, ◌<◌, ◌≤◌, Bool, true, not, ◌&&◌, eqb, sym, refl, ◌∙◌, subst, inl, inr, arith}
use Rattle.std.proofs.lemmas.Bool.{cases_lt, cases_eq, true≢false, and_parts, and_from, eqb-true, eqb-false, eq-eqb, ne_eqb, not_from_false, not-true as false_from_not}
use Rattle.lineage.specs.Finite.{Chain, none, step, count, any, Within}
use Rattle.lineage.specs.Book.{leads, group, arc}
use Rattle.lineage.proofs.Numbers.{refuted, any_hit, any_some, Least, least_is, total_lt, bit, bit_le, bit_lt}
use Rattle.lineage.proofs.Reach.{chain_trans, via_sound, via_whole}

-- a rank that rises along arcs: how many lead to v
abbrev pub rank : ℕ → (ℕ → ℕ → Bool) → ℕ → ℕ
rank n R v = count n (λ h. leads n R h v)

module _ (n : ℕ) (R : ℕ → ℕ → Bool) (within : Within n R) where
  pub leads_sound : (u v : ℕ) → leads n R u v ≡ true → Chain R u v
  unfolding leads
  leads_sound u v e = via_sound R n u v e

  pub leads_whole : {u v : ℕ} → Chain R u v → leads n R u v ≡ true
  unfolding leads
  leads_whole c = via_whole R n within c

  pub leads_trans : (u v w : ℕ) → leads n R u v ≡ true → leads n R v w ≡ true → leads n R u w ≡ true
  leads_trans u v w a b = leads_whole (chain_trans R (leads_sound u v a) (leads_sound v w b))

  group_is : (u : ℕ) → Least n (λ g. leads n R u g && leads n R g u) (group n R u)
  unfolding group
  group_is u = least_is n (λ g. leads n R u g && leads n R g u)

  pub group_least : (u g : ℕ) → leads n R u g ≡ true → leads n R g u ≡ true → group n R u ≤ g
  group_least u g a b = elim (cases_lt g (group n R u)) [
    | inl h ↦ absurd (true≢false (sym (and_from (leads n R u g) (leads n R g u) a b) ∙ (group_is u).under g h))
    | inr h ↦ h
  ]

  pub group_in : (u : ℕ) → u < n → group n R u < n
  group_in u l = let r = leads_whole {u = u} {v = u} none in omega (arith, group_least u u r r)

  pub group_both : (u : ℕ) → u < n → (leads n R u (group n R u) ≡ true) × (leads n R (group n R u) u ≡ true)
  group_both u l = and_parts (leads n R u (group n R u)) (leads n R (group n R u) u) ((group_is u).hit (group_in u l))

  pub group_same : (u v : ℕ) → u < n → v < n → leads n R u v ≡ true → leads n R v u ≡ true → group n R u ≡ group n R v
  group_same u v l m a b =
      let x = group_both u l in let y = group_both v m in
      omega (
        arith,
        group_least u (group n R v) (leads_trans u v (group n R v) a y.0) (leads_trans (group n R v) v u y.1 b),
        group_least v (group n R u) (leads_trans v u (group n R u) b x.0) (leads_trans (group n R u) u v x.1 a),
      )

  pub group_group : (u : ℕ) → u < n → group n R (group n R u) ≡ group n R u
  group_group u l = let x = group_both u l in group_same (group n R u) u (group_in u l) l x.1 x.0

  pub arc_sound : (a b : ℕ) → arc n R a b ≡ true →
      (a < n) × (b < n) × (a ≡ b → ⊥) × ((u : ℕ) × (v : ℕ) × (R u v ≡ true) × (group n R u ≡ a) × (group n R v ≡ b))
  unfolding arc
  arc_sound a b e =
      let p = and_parts (not (eqb a b)) (any n (λ u. any n (λ v. R u v && eqb (group n R u) a && eqb (group n R v) b))) e in
      let x = any_some n (λ u. any n (λ v. R u v && eqb (group n R u) a && eqb (group n R v) b)) p.1 in
      let y = any_some n (λ v. R x.0 v && eqb (group n R x.0) a && eqb (group n R v) b) x.2 in
      let q = and_parts (R x.0 y.0 && eqb (group n R x.0) a) (eqb (group n R y.0) b) y.2 in
      let r = and_parts (R x.0 y.0) (eqb (group n R x.0) a) q.0 in
      let w = within x.0 y.0 r.0 in
      let f = eqb-true (group n R x.0) a r.1 in let g = eqb-true (group n R y.0) b q.1 in (
        subst (λ (z : ℕ). z < n) f (group_in x.0 w.0),
        subst (λ (z : ℕ). z < n) g (group_in y.0 w.1),
        eqb-false a b (false_from_not (eqb a b) p.0),
        (x.0, y.0, r.0, f, g),
      )

  pub arc_whole : (u v : ℕ) → R u v ≡ true → (group n R u ≡ group n R v → ⊥) → arc n R (group n R u) (group n R v) ≡ true
  unfolding arc
  arc_whole u v e ne =
      let l = (within u v e).0 in let m = (within u v e).1 in
      let a = group n R u in let b = group n R v in
      and_from (not (eqb a b)) (any n (λ u. any n (λ v. R u v && eqb (group n R u) a && eqb (group n R v) b)))
      (not_from_false (eqb a b) (ne_eqb a b ne))
      (any_hit n (λ u. any n (λ v. R u v && eqb (group n R u) a && eqb (group n R v) b)) u l
      (any_hit n (λ v. R u v && eqb (group n R u) a && eqb (group n R v) b) v m
      (and_from (R u v && eqb (group n R u) a) (eqb (group n R v) b)
      (and_from (R u v) (eqb (group n R u) a) e (eq-eqb (group n R u) a refl)) (eq-eqb (group n R v) b refl))))

  pub arc_leads : (a b : ℕ) → arc n R a b ≡ true → leads n R a b ≡ true
  arc_leads a b e =
      let s = arc_sound a b e in
      let u = s.3.0 in let v = s.3.1 in let r = s.3.2 in
      let l = (within u v r).0 in let m = (within u v r).1 in
      let x : leads n R a u ≡ true = subst (λ (g : ℕ). leads n R g u ≡ true) s.3.3 (group_both u l).1 in
      let y : leads n R v b ≡ true = subst (λ (g : ℕ). leads n R v g ≡ true) s.3.4 (group_both v m).0 in
      leads_trans a u b x (leads_trans u v b (leads_whole (step r none)) y)

  pub arc_from : (a b : ℕ) → arc n R a b ≡ true → group n R a ≡ a
  arc_from a b e =
      let s = arc_sound a b e in let u = s.3.0 in let v = s.3.1 in let l = (within u v s.3.2).0 in
      subst (λ (g : ℕ). group n R g ≡ g) s.3.3 (group_group u l)

  pub arc_to : (a b : ℕ) → arc n R a b ≡ true → group n R b ≡ b
  arc_to a b e =
      let s = arc_sound a b e in let u = s.3.0 in let v = s.3.1 in let m = (within u v s.3.2).1 in
      subst (λ (g : ℕ). group n R g ≡ g) s.3.4 (group_group v m)

  pub arc_acyclic : (a b : ℕ) → arc n R a b ≡ true → leads n R b a ≡ true → ⊥
  arc_acyclic a b e f = (arc_sound a b e).2 (sym (arc_from a b e) ∙ (group_same a b (arc_sound a b e).0 (arc_sound a b e).1 (arc_leads a b e) f ∙ arc_to a b e))

  pub arc_rank : (a b : ℕ) → arc n R a b ≡ true → rank n R a < rank n R b
  arc_rank a b e =
      let m = (arc_sound a b e).1 in
      total_lt n (λ h. bit (leads n R h a)) (λ h. bit (leads n R h b))
      (λ h l. bit_le (leads n R h a) (leads n R h b) (λ x. leads_trans h a b x (arc_leads a b e)))
      b m
      (bit_lt (leads n R b a) (leads n R b b) (refuted (leads n R b a) (arc_acyclic a b e)) (leads_whole none))

  -- a chain of models is a chain of groups
  pub chain_arcs : {u v : ℕ} → Chain R u v → Chain (arc n R) (group n R u) (group n R v)
  chain_arcs none = none
  chain_arcs {u} {v} (step {w = w} e c) = elim (cases_eq (group n R u) (group n R w)) [
    | inl s ↦ subst (λ (g : ℕ). Chain (arc n R) g (group n R v)) (sym s) (chain_arcs c)
    | inr ne ↦ step (arc_whole u w e ne) (chain_arcs c)
  ]

  pub arcs_leads : {a b : ℕ} → Chain (arc n R) a b → leads n R a b ≡ true
  arcs_leads none = leads_whole none
  arcs_leads {a} {b} (step {w = w} e c) = leads_trans a w b (arc_leads a w e) (arcs_leads c)

  pub leads_from_groups : (u v : ℕ) → u < n → v < n → leads n R (group n R u) (group n R v) ≡ true → leads n R u v ≡ true
  leads_from_groups u v l m e =
      leads_trans u (group n R u) v (group_both u l).0 (leads_trans (group n R u) (group n R v) v e (group_both v m).1)
