-- Groups, arcs, tree parents and intervals as specs/Theorems states them. Assumes nothing.
use Rattle.std.proofs.Common.{◌≡◌, ℕ, Bool, true, sym, ◌∙◌, subst, inl, inr, arith}
use Rattle.std.proofs.lemmas.Bool.{cases_lt}
use Rattle.lineage.specs.Finite.{none, Within}
use Rattle.lineage.specs.Book.{leads, group, arc, parent, tree}
use Rattle.lineage.specs.Theorems.{LeadsIsChain, GroupsAreMutual, ArcsAndParents, IntervalsTellAncestors}
use Rattle.lineage.proofs.Groups.{leads_sound, leads_whole, leads_trans, group_in, group_group, group_both, group_same, group_least, arc_sound, arc_whole}
use Rattle.lineage.proofs.Tree.{parent_arc, parent_in, parent_fits, parent_most, tree_arc, tree_whole, above_sound, above_whole, interval_whole, interval_sound}

module _ (n : ℕ) (R : ℕ → ℕ → Bool) (within : Within n R) where
  pub leads_chain : LeadsIsChain n R
  leads_chain = record { exact = λ u v. (leads_sound n R within u v, leads_whole n R within) }

  pub groups_mutual : GroupsAreMutual n R
  groups_mutual = record {
    same = λ u v l m. (
      λ e. let a = group_both n R within u l in let b = group_both n R within v m in
          let b₀ = subst (λ (g : ℕ). leads n R v g ≡ true) (sym e) b.0 in
          let b₁ = subst (λ (g : ℕ). leads n R g v ≡ true) (sym e) b.1 in (
            leads_sound n R within u v (leads_trans n R within u (group n R u) v a.0 b₁),
            leads_sound n R within v u (leads_trans n R within v (group n R u) u b₀ a.1),
          ),
      λ c. group_same n R within u v l m (leads_whole n R within c.0) (leads_whole n R within c.1),
    );
    in_it = λ u l. (group_in n R within u l, group_group n R within u l);
    lowest = λ u v l m e. let r = leads_whole n R within {u = v} {v = v} none in omega (arith, group_least n R within v v r r);
  }

  arc_back : (a b : ℕ) → (a ≡ b → ⊥) → (u v : ℕ) → R u v ≡ true → group n R u ≡ a → group n R v ≡ b → arc n R a b ≡ true
  arc_back a b ne u v r e f =
      subst (λ x. arc n R x b ≡ true) e (subst (λ x. arc n R (group n R u) x ≡ true) f
      (arc_whole n R within u v r (λ s. ne (sym e ∙ (s ∙ f)))))

  pub arcs_parents : ArcsAndParents n R
  arcs_parents = record {
    arcs = λ a b. (
      λ e. let s = arc_sound n R within a b e in (s.2, s.3),
      λ h. arc_back a b h.0 h.1.0 h.1.1 h.1.2 h.1.3 h.1.4,
    );
    parents = λ a b. (
      λ e. let t = tree_arc n R within a b e in (t.1, λ c f. let g = parent_most n R within c b f in omega (arith, t.0)),
      λ h.
          let l = (arc_sound n R within a b h.0).0 in
          let i = parent_in n R within a b l h.0 in
          let e : parent n R b ≡ a = omega (arith, parent_most n R within a b h.0, h.1 (parent n R b) (parent_arc n R within b i)) in
          subst (λ x. tree n R x b ≡ true) e (tree_whole n R within b i),
    );
    roots = λ b. (
      λ e a f. let i = parent_in n R within a b (arc_sound n R within a b f).0 f in omega arith,
      λ h. elim (cases_lt (parent n R b) n) [
        | inl l ↦ absurd (h (parent n R b) (parent_arc n R within b l))
        | inr l ↦ omega (arith, parent_fits n R within b)
      ],
    );
    ancestors = λ a b. (above_sound n R within a b, above_whole n R within);
  }

  pub intervals_tell : IntervalsTellAncestors n R
  intervals_tell = record {
    exact = λ a b l m s t. (λ h. interval_sound n R within a b l m s t h.0 h.1, interval_whole n R within a b l m s t);
  }
