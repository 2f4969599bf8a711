-- The answer by intervals and cells is exactly leads-to. Assumes nothing.
use Rattle.std.proofs.Common.{◌≡◌, ℕ, ◌-◌, ◌<◌, ◌≤◌, Bool, true, ◌||◌, eqb, ltb, leb, Some, None, Option, sym, refl, ap, ◌∙◌, inl, inr, arith}
use Rattle.std.proofs.lemmas.Bool.{or_cases, or_left, or_right, ltb-true, lt-ltb}
use Rattle.lineage.specs.Finite.{Chain, Within}
use Rattle.lineage.specs.Lists.{◌∈◌, place}
use Rattle.lineage.specs.Closure.{Link, arrow, T, N, X, Y, cell}
use Rattle.lineage.specs.Book.{leads, group, tree, start, end, inside, links, nearest, label_x, label_y, label_z, group_answer, answer}
use Rattle.lineage.specs.Theorems.{Nearest, AnswerIsLeads}
use Rattle.lineage.proofs.Reach.{chain_trans}
use Rattle.lineage.proofs.Closure.{T_least, least_T, Y_rises}
use Rattle.lineage.proofs.Groups.{leads_sound, leads_trans, group_in, group_group, chain_arcs, leads_from_groups}
use Rattle.lineage.proofs.Tree.{interval_whole, interval_sound, inside_sound, inside_whole}
use Rattle.lineage.proofs.Links.{link_ends, incoming_some, tree_leads, member, Way, down, through, way}
use Rattle.lineage.proofs.Places.{place_of, place_stands}
use Rattle.lineage.proofs.Counts.{Counted, N_same, N_none, N_some, N_more, cell_row, no_column}
use Rattle.lineage.proofs.Labels.{Near, near_is, incoming_in_Y}

module _ (n : ℕ) (R : ℕ → ℕ → Bool) (within : Within n R) where
  -- a member of T that covers the start of a group goes to an ancestor of it, and back
  member_over : (m : Link) → (i : m ∈ T (links n R)) → (g : ℕ) → g < n → group n R g ≡ g → m.start ≤ start n R g → start n R g < m.end →
      Chain (tree n R) (member n R within (T_least (links n R) m.from m.start m.end i)).b g
  member_over m i g l s lo hi =
      let y = member n R within (T_least (links n R) m.from m.start m.end i) in
      let e = y.ends in let f = y.j_is in let f' = y.k_is in
      interval_sound n R within y.b g e.b_in l e.b_group s (omega arith) (omega arith)

  over_member : (x : ℕ) (m : Link) → (i : m ∈ T (links n R)) → (g : ℕ) → g < n → group n R g ≡ g → x ≤ m.from →
      Chain (tree n R) (member n R within (T_least (links n R) m.from m.start m.end i)).b g → Counted x (start n R g) m
  over_member x m i g l s h c =
      let y = member n R within (T_least (links n R) m.from m.start m.end i) in
      let e = y.ends in let f = y.j_is in let f' = y.k_is in
      let p = interval_whole n R within y.b g e.b_in l e.b_group s c in
      record { from_x = h; lo = omega (arith, p.0); hi = omega (arith, p.1) }

  -- a column: at the nearest ancestor with an incoming link as much is counted as at the group itself
  column : (x g w : ℕ) → g < n → group n R g ≡ g → Nearest n R g w → N (links n R) x (start n R w) ≡ N (links n R) x (start n R g)
  column x g w l s h =
      let z = link_ends n R within h.incoming.0 w h.incoming.1 in
      N_same (links n R) x (start n R w) x (start n R g)
      (λ m i c. over_member x m i g l s c.from_x (chain_trans (tree n R) (member_over m i w z.b_in z.b_group c.lo c.hi) h.at_or_above))
      (λ m i c.
      let y = member n R within (T_least (links n R) m.from m.start m.end i) in
      let k = incoming_some n R within y.b y.linked_in in
      over_member x m i w z.b_in z.b_group c.from_x (h.nearest y.b k.0 (member_over m i g l s c.lo c.hi) k.1))

  empty_column : (x g : ℕ) → g < n → group n R g ≡ g → Near n R g None → N (links n R) x (start n R g) ≡ 0
  empty_column x g l s h = N_none (links n R) x (start n R g) (λ m i c.
      let y = member n R within (T_least (links n R) m.from m.start m.end i) in
      let k = incoming_some n R within y.b y.linked_in in
      h y.b k.0 (member_over m i g l s c.lo c.hi) k.1)

  at_place : (x g w : ℕ) → g < n → group n R g ≡ g → Nearest n R g w → (o : Option ℕ) → place (eqb (start n R w)) (Y (links n R)) ≡ o →
      cell (links n R) (place (leb x) (X (links n R))) o ≡ N (links n R) x (start n R g)
  at_place x g w l s h None e =
      absurd (place_stands (Y (links n R)) (Y_rises (links n R)) (start n R w) (incoming_in_Y n R within h.incoming.0 w h.incoming.1) e)
  at_place x g w l s h (Some q) e =
      let p = (place_of (Y (links n R)) (Y_rises (links n R)) (start n R w) q).0 e in
      cell_row (links n R) x q p.0 ∙ (ap (N (links n R) x) p.1 ∙ column x g w l s h)

  at_nearest : (x g : ℕ) → g < n → group n R g ≡ g → (o : Option ℕ) → Near n R g o →
      cell (links n R) (place (leb x) (X (links n R))) (elim o [ Some w ↦ place (eqb (start n R w)) (Y (links n R)) | None ↦ None ]) ≡ N (links n R) x (start n R g)
  at_nearest x g l s None h = no_column (links n R) (place (leb x) (X (links n R))) ∙ sym (empty_column x g l s h)
  at_nearest x g l s (Some w) h = at_place x g w l s h (place (eqb (start n R w)) (Y (links n R))) refl

  -- the cell at the place of the least element from x on and at z of a group is N at x and the start of the group
  pub snapped : (x g : ℕ) → g < n → group n R g ≡ g → cell (links n R) (place (leb x) (X (links n R))) (label_z n R g) ≡ N (links n R) x (start n R g)
  unfolding label_z
  snapped x g l s = at_nearest x g l s (nearest n R n g) (near_is n R within g l)

  -- for groups
  module _ (a b : ℕ) (l : a < n) (m : b < n) (s : group n R a ≡ a) (t : group n R b ≡ b) where
    -- the members from the start of a up to its end that cover the start of b
    abbrev between : ℕ
    between = N (links n R) (start n R a) (start n R b) - N (links n R) (end n R a) (start n R b)

    difference : cell (links n R) (label_x n R a) (label_z n R b) - cell (links n R) (label_y n R a) (label_z n R b) ≡ between
    unfolding label_x label_y
    difference = omega (arith, snapped (start n R a) b m t, snapped (end n R a) b m t)

    by_way_of : (x y : ℕ) → Chain (tree n R) a x → leads n R x y ≡ true → Chain (tree n R) y b → leads n R a b ≡ true
    by_way_of x y p h q = leads_trans n R within a x b (tree_leads n R within p) (leads_trans n R within x y b h (tree_leads n R within q))

    counted_leads : 0 < between → leads n R a b ≡ true
    counted_leads h =
        let x = N_some (links n R) (start n R a) (end n R a) (start n R b) (omega arith) in
        let c = x.2 in
        let y = member n R within (T_least (links n R) x.0.from x.0.start x.0.end x.1) in
        let e = y.ends in let f = y.i_is in let c₀ = c.from_x in let c₃ : x.0.from < end n R a = x.3 in
        let p = interval_sound n R within a y.a l e.a_in s e.a_group (omega arith) (omega arith) in
        let q = member_over x.0 x.1 b m t c.lo c.hi in
        by_way_of y.a y.b p y.leads_on q

    way_answers : Way n R within a b → (inside n R a b || ltb 0 between) ≡ true
    way_answers (down c) = or_left (inside n R a b) (ltb 0 between) (inside_whole n R within a b l m s t c)
    way_answers (through x y e u i v) =
        let p = interval_whole n R within a x l e.a_in s e.a_group u in
        let q = interval_whole n R within y b e.b_in m e.b_group t v in
        let h : start n R a ≤ end n R a = omega (arith, p.0, p.1) in
        let k = N_more (links n R) (start n R a) (end n R a) (start n R b) (arrow (start n R x) (start n R y) (end n R y)) h (least_T (links n R) i)
        (record { from_x = p.0; lo = q.0; hi = q.1 }) p.1 in
        or_right (inside n R a b) (ltb 0 between) (lt-ltb 0 between (omega arith))

    answer_leads : (inside n R a b || ltb 0 between) ≡ true → leads n R a b ≡ true
    answer_leads e = elim (or_cases (inside n R a b) (ltb 0 between) e) [
      | inl h ↦ tree_leads n R within (inside_sound n R within a b l m s t h)
      | inr h ↦ counted_leads (ltb-true 0 between h)
    ]

    pub group_answer_is : group_answer n R a b ≡ (inside n R a b || ltb 0 between)
    unfolding group_answer
    group_answer_is = ap (λ d. inside n R a b || ltb 0 d) difference

  pub answer_exact : AnswerIsLeads n R
  unfolding answer
  answer_exact = record {
    exact = λ u v l m.
        let a = group n R u in let b = group n R v in
        let i = group_in n R within u l in let j = group_in n R within v m in
        let s = group_group n R within u l in let t = group_group n R within v m in
        let w = group_answer_is a b i j s t in (
          λ e. leads_sound n R within u v (leads_from_groups n R within u v l m (answer_leads a b i j s t (sym w ∙ e))),
          λ c. w ∙ way_answers a b i j s t (way n R within (chain_arcs n R within c)),
        );
  }
