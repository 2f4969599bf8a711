-- The links of a book: its arcs go down the tree or are links, and a chain goes down the tree or down, through T, and down. Assumes nothing.
use Rattle.std.proofs.Common.{◌≡◌, ℕ, ◌<◌, ◌≤◌, Bool, true, not, ◌&&◌, eqb, ◌⊎◌, List, sym, ap, ◌∙◌, subst, inl, inr, arith}
use Rattle.std.proofs.lemmas.Bool.{true≢false, and_parts, and_from, ne_eqb, not_from_false, not-true as false_from_not}
use Rattle.lineage.specs.Finite.{Chain, none, step, Within}
use Rattle.lineage.specs.Lists.{◌∈◌}
use Rattle.lineage.specs.Closure.{Link, arrow, below, InT, linked, joined}
use Rattle.lineage.specs.Book.{leads, group, arc, parent, tree, start, end, inside, link, toward, links, incoming}
use Rattle.lineage.specs.Theorems.{OffTree, LinksAreExact}
use Rattle.lineage.proofs.Numbers.{refuted, any_hit, any_some}
use Rattle.lineage.proofs.Rising.{Rises, rises_at, rises_unique}
use Rattle.lineage.proofs.Reach.{chain_trans}
use Rattle.lineage.proofs.Closure.{strict_below, in_listed, listed_in, listed_rises}
use Rattle.lineage.proofs.Groups.{leads_trans, arc_sound, arc_leads, arc_from, arc_to, arcs_leads}
use Rattle.lineage.proofs.Tree.{tree_arc, tree_whole, forest, interval_whole, interval_sound, inside_sound, inside_whole}

module _ (n : ℕ) (R : ℕ → ℕ → Bool) (within : Within n R) where
  pub link_arc : (a b : ℕ) → link n R a b ≡ true → arc n R a b ≡ true
  unfolding link
  link_arc a b e =
      let p = and_parts (arc n R a b && not (eqb (parent n R b) a)) (not (inside n R a b)) e in
      (and_parts (arc n R a b) (not (eqb (parent n R b) a)) p.0).0

  -- a link does not go down the tree
  pub link_off : (a b : ℕ) → link n R a b ≡ true → Chain (tree n R) a b → ⊥
  unfolding link
  link_off a b e c =
      let p = and_parts (arc n R a b && not (eqb (parent n R b) a)) (not (inside n R a b)) e in
      let r = (and_parts (arc n R a b) (not (eqb (parent n R b) a)) p.0).0 in
      let s = arc_sound n R within a b r in
      true≢false (sym (inside_whole n R within a b s.0 s.1 (arc_from n R within a b r) (arc_to n R within a b r) c) ∙ false_from_not (inside n R a b) p.1)

  pub link_whole : (a b : ℕ) → arc n R a b ≡ true → (Chain (tree n R) a b → ⊥) → link n R a b ≡ true
  unfolding link
  link_whole a b e off =
      let s = arc_sound n R within a b e in
      let l = s.0 in let m = s.1 in
      and_from (arc n R a b && not (eqb (parent n R b) a)) (not (inside n R a b))
      (and_from (arc n R a b) (not (eqb (parent n R b) a)) e
      (not_from_false (eqb (parent n R b) a) (ne_eqb (parent n R b) a (λ q.
      off (step (subst (λ (x : ℕ). tree n R x b ≡ true) q (tree_whole n R within b (omega arith))) none)))))
      (not_from_false (inside n R a b) (refuted (inside n R a b) (λ i.
      off (inside_sound n R within a b l m (arc_from n R within a b e) (arc_to n R within a b e) i))))

  -- an arc goes down the tree or is a link
  pub arc_cases : (a b : ℕ) → arc n R a b ≡ true → Chain (tree n R) a b ⊎ (link n R a b ≡ true)
  arc_cases a b e =
      let s = arc_sound n R within a b e in
      elim ((forest n R within).whether a b s.0 s.1) [ inl c ↦ inl c | inr x ↦ inr (link_whole a b e x) ]

  pub tree_arcs : {a b : ℕ} → Chain (tree n R) a b → Chain (arc n R) a b
  tree_arcs none = none
  tree_arcs {a} {b} (step {w = w} e c) = step (tree_arc n R within a w e).1 (tree_arcs c)

  pub tree_leads : {a b : ℕ} → Chain (tree n R) a b → leads n R a b ≡ true
  tree_leads c = arcs_leads n R within (tree_arcs c)

  pub link_leads : (a b : ℕ) → link n R a b ≡ true → leads n R a b ≡ true
  link_leads a b e = arc_leads n R within a b (link_arc a b e)

  -- two groups
  pub record Ends (a b : ℕ) : Type 0 where
    pub a_in : a < n
    pub b_in : b < n
    pub a_group : group n R a ≡ a
    pub b_group : group n R b ≡ b

  pub link_ends : (a b : ℕ) → link n R a b ≡ true → Ends a b
  link_ends a b e =
      let r = link_arc a b e in let s = arc_sound n R within a b r in
      record { a_in = s.0; b_in = s.1; a_group = arc_from n R within a b r; b_group = arc_to n R within a b r }

  pub link_within : Within n (link n R)
  link_within a b e = let x = link_ends a b e in (x.a_in, x.b_in)

  pub incoming_hit : (a w : ℕ) → link n R a w ≡ true → incoming n R w ≡ true
  incoming_hit a w e = any_hit n (λ a. link n R a w) a (link_ends a w e).a_in e

  pub incoming_some : (w : ℕ) → incoming n R w ≡ true → (a : ℕ) × (link n R a w ≡ true)
  incoming_some w e = let x = any_some n (λ a. link n R a w) e in (x.0, x.2)

  -- the list of the links
  pub in_links : (a b : ℕ) → link n R a b ≡ true → toward n R a b ∈ links n R
  unfolding links
  in_links a b e = let w = link_within a b e in in_listed n (link n R) (toward n R) a b w.0 w.1 e

  pub links_in : (l : Link) → l ∈ links n R → (a : ℕ) × (b : ℕ) × (link n R a b ≡ true) × (toward n R a b ≡ l)
  unfolding links
  links_in l h = let x = listed_in n (link n R) (toward n R) l h in (x.0, x.1, x.4, x.5)

  pub links_rises : Rises below (links n R)
  unfolding links
  links_rises = listed_rises n (link n R) (toward n R)

  -- a rising list with exactly the links is the list of the links
  pub links_unique : (xs : List Link) → Rises below xs → ((l : Link) → l ∈ xs → (a : ℕ) × (b : ℕ) × (link n R a b ≡ true) × (toward n R a b ≡ l)) →
      ((a b : ℕ) → link n R a b ≡ true → toward n R a b ∈ xs) → xs ≡ links n R
  links_unique xs r f g = rises_unique below strict_below xs (links n R) r links_rises
      (λ l h. let x = f l h in subst (λ z. z ∈ links n R) x.3 (in_links x.0 x.1 x.2))
      (λ l h. let x = links_in l h in subst (λ z. z ∈ xs) x.3 (g x.0 x.1 x.2))

  pub off_tree : (a b : ℕ) → link n R a b ≡ true → OffTree n R a b
  off_tree a b e =
      let x = link_ends a b e in
      record {
        is_arc = link_arc a b e;
        no_tree_arc = refuted (tree n R a b) (λ t. link_off a b e (step t none));
        outside = λ lo hi. link_off a b e (interval_sound n R within a b x.a_in x.b_in x.a_group x.b_group lo hi);
      }

  pub off_tree_link : (a b : ℕ) → OffTree n R a b → link n R a b ≡ true
  off_tree_link a b o =
      let e = o.is_arc in let s = arc_sound n R within a b e in
      link_whole a b e (λ c. let p = interval_whole n R within a b s.0 s.1 (arc_from n R within a b e) (arc_to n R within a b e) c in o.outside p.0 p.1)

  pub links_exact : LinksAreExact n R
  links_exact = record {
    exact = λ i j k. (
      λ h. let x = links_in (arrow i j k) h in (
        x.0,
        x.1,
        off_tree x.0 x.1 x.2,
        sym (ap (λ (l : Link). l.from) x.3),
        sym (ap (λ (l : Link). l.start) x.3),
        sym (ap (λ (l : Link). l.end) x.3),
      ),
      λ h. subst (λ x. arrow x j k ∈ links n R) (sym h.3) (subst (λ x. arrow (start n R h.0) x k ∈ links n R) (sym h.4)
          (subst (λ x. arrow (start n R h.0) (start n R h.1) x ∈ links n R) (sym h.5) (in_links h.0 h.1 (off_tree_link h.0 h.1 h.2)))),
    );
    rises = rises_at below strict_below (links n R) (arrow 0 0 0) links_rises;
  }

  -- a member of T goes from a group to a group that has an incoming link, and the first leads to the second
  pub record Member (i j k : ℕ) : Type 0 where
    pub a : ℕ
    pub b : ℕ
    pub ends : Ends a b
    pub leads_on : leads n R a b ≡ true
    pub linked_in : incoming n R b ≡ true
    pub i_is : start n R a ≡ i
    pub j_is : start n R b ≡ j
    pub k_is : end n R b ≡ k

  pub member : {i j k : ℕ} → InT (links n R) i j k → Member i j k
  member (linked {i = i} {j = j} {k = k} h) =
      let x = links_in (arrow i j k) h in
      record {
        a = x.0;
        b = x.1;
        ends = link_ends x.0 x.1 x.2;
        leads_on = link_leads x.0 x.1 x.2;
        linked_in = incoming_hit x.0 x.1 x.2;
        i_is = ap (λ (l : Link). l.from) x.3;
        j_is = ap (λ (l : Link). l.start) x.3;
        k_is = ap (λ (l : Link). l.end) x.3;
      }
  member (joined s t lo hi) = both (member s) (member t) lo hi
    where
      both : {i j k i' j' k' : ℕ} → Member i j k → Member i' j' k' → j ≤ i' → i' < k → Member i j' k'
      both x y lo hi =
          let f = x.ends in let g = y.ends in
          let e₁ = x.j_is in let e₂ = x.k_is in let e₃ = y.i_is in
          let c = interval_sound n R within x.b y.a f.b_in g.a_in f.b_group g.a_group (omega arith) (omega arith) in
          record {
            a = x.a;
            b = y.b;
            ends = record { a_in = f.a_in; b_in = g.b_in; a_group = f.a_group; b_group = g.b_group };
            leads_on = leads_trans n R within x.a x.b y.b x.leads_on (leads_trans n R within x.b y.a y.b (tree_leads c) y.leads_on);
            linked_in = y.linked_in;
            i_is = x.i_is;
            j_is = y.j_is;
            k_is = y.k_is;
          }

  -- the start of a → the interval of b is a member of T
  abbrev pub Through : ℕ → ℕ → Type 0
  Through a b = InT (links n R) (start n R a) (start n R b) (end n R b)

  -- down the tree, or down, through T, and down
  pub data Way (a b : ℕ) : Type 0 where
    down : Chain (tree n R) a b → Way a b
    through : (x y : ℕ) → Ends x y → Chain (tree n R) a x → Through x y → Chain (tree n R) y b → Way a b

  pub way : {a b : ℕ} → Chain (arc n R) a b → Way a b
  way none = down none
  way {a} {b} (step {w = w} e c) = first a w b e (way c)
    where
      by_link : (a w b : ℕ) → link n R a w ≡ true → Way w b → Way a b
      by_link a w b k (down t) = through a w (link_ends a w k) none (linked (in_links a w k)) t
      by_link a w b k (through x y s t m u) =
          let z = link_ends a w k in
          let p = interval_whole n R within w x z.b_in s.a_in z.b_group s.a_group t in
          through a y (record { a_in = z.a_in; b_in = s.b_in; a_group = z.a_group; b_group = s.b_group }) none
          (joined (linked (in_links a w k)) m p.0 p.1) u

      by_tree : (a w b : ℕ) → Chain (tree n R) a w → Way w b → Way a b
      by_tree a w b t (down u) = down (chain_trans (tree n R) t u)
      by_tree a w b t (through x y s u m v) = through x y s (chain_trans (tree n R) t u) m v

      first : (a w b : ℕ) → arc n R a w ≡ true → Way w b → Way a b
      first a w b e r = elim (arc_cases a w e) [ inl t ↦ by_tree a w b t r | inr k ↦ by_link a w b k r ]
