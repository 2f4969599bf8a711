-- The starts are the places in the recursive preorder listing. Assumes nothing.
use Rattle.std.proofs.Common.{◌≡◌, ℕ, zero, suc, ◌+◌, ◌<◌, Bool, true, false, cond, ◌&&◌, ◌||◌, eqb, List, [], ◌∷◌, ◌++◌, length, get_or, filter, sym, refl, ap, ◌∙◌, subst, inl, inr, arith}
use Rattle.std.specs.List.{range_with_len}
use Rattle.std.proofs.lemmas.Bool.{and_parts, and_from, or_cases, or_left, or_right, eqb-true, eq-eqb}
use Rattle.lineage.specs.Finite.{Chain, none, step, count, any, those, Within}
use Rattle.lineage.specs.Lists.{gathered}
use Rattle.lineage.specs.Book.{leads, group, is_group, is_root, parent, tree, above, start, end, walk, preorder}
use Rattle.lineage.specs.Theorems.{StartsArePreorder}
use Rattle.lineage.proofs.Numbers.{refuted, any_hit, any_some, total_same, total_none, total_lt, count_fits, count_has, count_one, count_split, bit, bit_le, bit_lt, bit_split, same_tests}
use Rattle.lineage.proofs.Reach.{chain_eq}
use Rattle.lineage.proofs.Forest.{Before, over, beside, siblings_part, child_before, root_before, before_down, before_not_self, before_not_under, up_rank, up_first, top}
use Rattle.lineage.proofs.Groups.{rank, leads_whole, arc_from, arc_to}
use Rattle.lineage.proofs.Tree.{forest, tests, group_before, tree_arc, tree_within, above_sound, above_whole, distinct_starts}

-- a list whose starts run from s up to e
abbrev Item : (n : ℕ) → (ℕ → ℕ → Bool) → ℕ → Type 0
Item n R x = (x < n) × (group n R x ≡ x)

abbrev Runs : (n : ℕ) → (ℕ → ℕ → Bool) → ℕ → List ℕ → ℕ → Type 0
Runs n R s [] e = s ≡ e
Runs n R s (x ∷ xs) e = Item n R x × (start n R x ≡ s) × Runs n R (suc s) xs e

module _ (n : ℕ) (R : ℕ → ℕ → Bool) where
  runs_join : (s m e : ℕ) (xs ys : List ℕ) → Runs n R s xs m → Runs n R m ys e → Runs n R s (xs ++ ys) e
  runs_join s m e [] ys p q = subst (λ (x : ℕ). Runs n R x ys e) (sym p) q
  runs_join s m e (x ∷ xs) ys p q = (p.0, p.1, runs_join (suc s) m e xs ys p.2 q)

  runs_length : (s e : ℕ) (xs : List ℕ) → Runs n R s xs e → e ≡ s + length xs
  runs_length s e [] p = omega arith
  runs_length s e (x ∷ xs) p = omega (arith, runs_length (suc s) e xs p.2)

  runs_at : (s e : ℕ) (xs : List ℕ) → Runs n R s xs e → (i : ℕ) → i < length xs → (get_or xs i 0 < n) × (group n R (get_or xs i 0) ≡ get_or xs i 0) × (start n R (get_or xs i 0) ≡ s + i)
  runs_at s e [] p i l = absurd (omega arith)
  runs_at s e (x ∷ xs) p zero l = (p.0.0, p.0.1, omega (arith, p.1))
  runs_at s e (x ∷ xs) p (suc i) l = let r = runs_at (suc s) e xs p.2 i (omega arith) in (r.0, r.1, omega (arith, r.2))

-- those that stand under the members of ch lower than a
abbrev pub under : (n : ℕ) → (ℕ → ℕ → Bool) → (ℕ → Bool) → ℕ → ℕ → Bool
under n R ch a h = any a (λ c. ch c && above n R c h)

module _ (n : ℕ) (R : ℕ → ℕ → Bool) (within : Within n R) where
  pub under_some : (ch : ℕ → Bool) (a h : ℕ) → under n R ch a h ≡ true → (c : ℕ) × (c < a) × (ch c ≡ true) × Chain (tree n R) c h
  under_some ch a h e =
      let x = any_some a (λ c. ch c && above n R c h) e in
      let p = and_parts (ch x.0) (above n R x.0 h) x.2 in
      (x.0, x.1, p.0, above_sound n R within x.0 h p.1)

  pub under_hit : (ch : ℕ → Bool) (a h c : ℕ) → c < a → ch c ≡ true → Chain (tree n R) c h → under n R ch a h ≡ true
  under_hit ch a h c l e p = any_hit a (λ c. ch c && above n R c h) c l (and_from (ch c) (above n R c h) e (above_whole n R within p))

  module _ (ch : ℕ → Bool) (apart : (c d h : ℕ) → c < n → d < n → ch c ≡ true → ch d ≡ true → Chain (tree n R) c h → Chain (tree n R) d h → c ≡ d) where
    pub under_step : (a : ℕ) → a < n → count n (under n R ch (suc a)) ≡ count n (under n R ch a) + count n (λ h. ch a && above n R a h)
    under_step a m = count_split n (under n R ch (suc a)) (under n R ch a) (λ h. ch a && above n R a h) (λ h l.
        bit_split (under n R ch (suc a) h) (under n R ch a h) (ch a && above n R a h)
        (λ e. elim (or_cases (ch a && above n R a h) (under n R ch a h) e) [ inl x ↦ inr x | inr x ↦ inl x ])
        (λ e. or_right (ch a && above n R a h) (under n R ch a h) e)
        (λ e. or_left (ch a && above n R a h) (under n R ch a h) e)
        (λ x y.
        let s = under_some ch a h x in
        let p = and_parts (ch a) (above n R a h) y in
        let lt : s.0 < a = s.1 in
        let i = apart s.0 a h (omega arith) m s.2 p.0 s.3 (above_sound n R within a h p.1) in
        omega arith))

    module _ (f : ℕ → List ℕ) (s : ℕ)
        (starts : (c : ℕ) → c < n → ch c ≡ true → start n R c ≡ s + count n (under n R ch c))
        (each : (c : ℕ) → c < n → ch c ≡ true → Runs n R (start n R c) (f c) (end n R c)) where
      gather_one : (a : ℕ) → a < n → (rest : List ℕ) (e : ℕ) → (b : Bool) → ch a ≡ b → Runs n R (s + count n (under n R ch (suc a))) (gathered f rest) e →
          Runs n R (s + count n (under n R ch a)) (gathered f (cond b (a ∷ rest) rest)) e
      unfolding end
      gather_one a l rest e true i r =
          let st = starts a l i in
          let ev = each a l i in
          let now : count n (λ h. ch a && above n R a h) ≡ count n (above n R a) = total_same n (λ h. bit (ch a && above n R a h)) (λ h. bit (above n R a h)) (λ h k. ap (λ (b : Bool). bit (b && above n R a h)) i) in
          let up = under_step a l in
          runs_join n R (s + count n (under n R ch a)) (s + count n (under n R ch (suc a))) e (f a) (gathered f rest)
          (subst (λ (x : ℕ). Runs n R x (f a) (s + count n (under n R ch (suc a)))) st
          (subst (λ (x : ℕ). Runs n R (start n R a) (f a) x) (omega arith) ev)) r
      gather_one a l rest e false i r =
          let none' : count n (λ h. ch a && above n R a h) ≡ 0 = total_none n (λ h. bit (ch a && above n R a h)) (λ h k. ap (λ (b : Bool). bit (b && above n R a h)) i) in
          let up = under_step a l in
          subst (λ (x : ℕ). Runs n R x (gathered f rest) e) (omega arith) r

      gather : (m a : ℕ) → a + m ≡ n → Runs n R (s + count n (under n R ch a)) (gathered f (filter ch (range_with_len a m))) (s + count n (under n R ch n))
      gather zero a e = ap (λ (x : ℕ). s + count n (under n R ch x)) (omega arith)
      gather (suc m) a e =
          let i : a + 1 ≡ suc a = omega arith in
          gather_one a (omega arith) (filter ch (range_with_len (a + 1) m)) (s + count n (under n R ch n)) (ch a) refl
          (subst (λ (x : ℕ). Runs n R (s + count n (under n R ch x)) (gathered f (filter ch (range_with_len (a + 1) m))) (s + count n (under n R ch n))) i
          (gather m (a + 1) (omega arith)))

      gather_all : Runs n R s (gathered f (those n ch)) (s + count n (under n R ch n))
      gather_all = subst (λ (x : ℕ). Runs n R x (gathered f (those n ch)) (s + count n (under n R ch n)))
          (omega (arith, total_none n (λ h. 0) (λ h l. refl))) (gather n 0 (omega arith))

  group_up : {a b : ℕ} → Chain (tree n R) a b → group n R b ≡ b → group n R a ≡ a
  group_up none e = e
  group_up {a} {b} (step {w = w} s c) e = arc_from n R within a w (tree_arc n R within a w s).1

  child_self : (g d : ℕ) → tree n R g d ≡ true → Chain (tree n R) d g → ⊥
  child_self g d s c = omega (arith, (forest n R within).rises g d s, up_rank n (parent n R) (tree n R) (rank n R) (forest n R within) c)

  self_or_under : (g a : ℕ) → g < n → count n (λ h. eqb h g || under n R (tree n R g) a h) ≡ 1 + count n (under n R (tree n R g) a)
  self_or_under g a l = omega (
    arith,
    count_one n g l,
    count_split n (λ h. eqb h g || under n R (tree n R g) a h) (λ h. eqb h g) (under n R (tree n R g) a) (λ h k.
        bit_split (eqb h g || under n R (tree n R g) a h) (eqb h g) (under n R (tree n R g) a h)
        (or_cases (eqb h g) (under n R (tree n R g) a h))
        (or_left (eqb h g) (under n R (tree n R g) a h))
        (or_right (eqb h g) (under n R (tree n R g) a h))
        (λ x y. let s = under_some (tree n R g) a h y in
        child_self g s.0 s.2 (subst (λ (z : ℕ). Chain (tree n R) s.0 z) (eqb-true h g x) s.3))),
  )

  pub above_count : (g : ℕ) → g < n → count n (above n R g) ≡ 1 + count n (under n R (tree n R g) n)
  above_count g l = total_same n (λ h. bit (above n R g h)) (λ h. bit (eqb h g || under n R (tree n R g) n h)) (λ h k.
      ap bit (same_tests (above n R g h) (eqb h g || under n R (tree n R g) n h)
      (λ e. elim (up_first n (parent n R) (tree n R) (rank n R) (forest n R within) (above_sound n R within g h e)) [
        | inl i ↦ or_left (eqb h g) (under n R (tree n R g) n h) (eq-eqb h g (sym i))
        | inr x ↦ or_right (eqb h g) (under n R (tree n R g) n h) (under_hit (tree n R g) n h x.0 (tree_within n R within g x.0 x.1).1 x.1 x.2)
      ])
      (λ e. above_whole n R within (elim (or_cases (eqb h g) (under n R (tree n R g) n h) e) [
        | inl i ↦ chain_eq (tree n R) (sym (eqb-true h g i))
        | inr i ↦ let s = under_some (tree n R g) n h i in step s.2 s.3
      ]))))
      ∙ self_or_under g n l

  pub child_start : (g c : ℕ) → tree n R g c ≡ true → start n R c ≡ suc (start n R g) + count n (under n R (tree n R g) c)
  unfolding start
  child_start g c s =
      let a = tree_arc n R within g c s in
      let w = tree_within n R within g c s in
      let K = tests n R within in
      let node_g = eq-eqb (group n R g) g (arc_from n R within g c a.1) in
      omega (
        arith,
        self_or_under g c w.0,
        count_split n (λ h. group_before n R h c) (λ h. group_before n R h g) (λ h. eqb h g || under n R (tree n R g) c h) (λ h l.
            bit_split (group_before n R h c) (group_before n R h g) (eqb h g || under n R (tree n R g) c h)
            (λ e. let b = K.bef_sound h c e in
            elim (child_before n (parent n R) (tree n R) (rank n R) (forest n R within) s b.1) [
              | inl x ↦ inl (K.bef_whole h g l w.0 b.0 x)
              | inr (inl x) ↦ inr (or_left (eqb h g) (under n R (tree n R g) c h) (eq-eqb h g x))
              | inr (inr x) ↦ inr (or_right (eqb h g) (under n R (tree n R g) c h) (under_hit (tree n R g) c h x.0 x.1 x.2 x.3))
            ])
            (λ e. let b = K.bef_sound h g e in
            K.bef_whole h c l w.1 b.0 (before_down n (parent n R) (tree n R) (rank n R) (forest n R within) (step s none) b.1))
            (λ e. elim (or_cases (eqb h g) (under n R (tree n R g) c h) e) [
              | inl x ↦ let i = eqb-true h g x in
                  K.bef_whole h c l w.1 (subst (λ (z : ℕ). is_group n R z ≡ true) (sym i) node_g)
                  (over (subst (λ (z : ℕ). Chain (tree n R) z c) (sym i) (step s none)) (λ j. child_self g c s (chain_eq (tree n R) (sym j ∙ i))))
              | inr x ↦ let u = under_some (tree n R g) c h x in
                  let v = tree_arc n R within g u.0 u.2 in
                  K.bef_whole h c l w.1
                  (K.node_down u.3 (eq-eqb (group n R u.0) u.0 (arc_to n R within g u.0 v.1)))
                  (beside u.0 c (tree_within n R within g u.0 u.2).1 w.1 u.1 (v.0 ∙ sym a.0) u.3 none)
            ])
            (λ x y. let b = (K.bef_sound h g x).1 in
            elim (or_cases (eqb h g) (under n R (tree n R g) c h) y) [
              | inl i ↦ before_not_self n (parent n R) (tree n R) (rank n R) (forest n R within) (subst (λ (z : ℕ). Before n (parent n R) (tree n R) z g) (eqb-true h g i) b)
              | inr i ↦ let u = under_some (tree n R g) c h i in
                  before_not_under n (parent n R) (tree n R) (rank n R) (forest n R within) b (step u.2 u.3)
            ])),
      )

  pub children_apart : (g c d h : ℕ) → c < n → d < n → tree n R g c ≡ true → tree n R g d ≡ true → Chain (tree n R) c h → Chain (tree n R) d h → c ≡ d
  children_apart g c d h l m p q x y =
      siblings_part n (parent n R) (tree n R) (rank n R) (forest n R within) l m ((tree_arc n R within g c p).0 ∙ sym (tree_arc n R within g d q).0) x y

  walk_runs : (k g : ℕ) → Item n R g → n < k + rank n R g → Runs n R (start n R g) (walk n R k g) (end n R g)
  unfolding walk end
  walk_runs zero g i f = absurd (omega (arith, count_fits n (λ h. leads n R h g)))
  walk_runs (suc k) g i f = (
    i,
    refl,
    subst (λ (x : ℕ). Runs n R (suc (start n R g)) (gathered (walk n R k) (those n (tree n R g))) x)
        (omega (arith, above_count g i.0))
        (gather_all (tree n R g) (children_apart g) (walk n R k) (suc (start n R g))
        (λ c l e. child_start g c e)
        (λ c l e. walk_runs k c (l, arc_to n R within g c (tree_arc n R within g c e).1) (omega (arith, (forest n R within).rises g c e)))),
  )

  root_parent : (g : ℕ) → is_root n R g ≡ true → parent n R g ≡ n
  root_parent g e = eqb-true (parent n R g) n (and_parts (is_group n R g) (eqb (parent n R g) n) e).1

  root_is : (d h : ℕ) → group n R h ≡ h → Chain (tree n R) d h → parent n R d ≡ n → is_root n R d ≡ true
  root_is d h e c p = and_from (is_group n R d) (eqb (parent n R d) n) (eq-eqb (group n R d) d (group_up c e)) (eq-eqb (parent n R d) n p)

  pub roots_apart : (c d h : ℕ) → c < n → d < n → is_root n R c ≡ true → is_root n R d ≡ true → Chain (tree n R) c h → Chain (tree n R) d h → c ≡ d
  roots_apart c d h l m p q x y =
      siblings_part n (parent n R) (tree n R) (rank n R) (forest n R within) l m (root_parent c p ∙ sym (root_parent d q)) x y

  pub root_start : (c : ℕ) → c < n → is_root n R c ≡ true → start n R c ≡ 0 + count n (under n R (is_root n R) c)
  unfolding start
  root_start c l e =
      let K = tests n R within in
      let pc = root_parent c e in
      omega (
        arith,
        total_same n (λ h. bit (group_before n R h c)) (λ h. bit (under n R (is_root n R) c h)) (λ h k.
            ap bit (same_tests (group_before n R h c) (under n R (is_root n R) c h)
            (λ x. let b = K.bef_sound h c x in
            let r = root_before n (parent n R) (tree n R) (rank n R) (forest n R within) (omega arith) b.1 in
            under_hit (is_root n R) c h r.0 r.1 (root_is r.0 h (eqb-true (group n R h) h b.0) r.3 (r.2 ∙ pc)) r.3)
            (λ x. let u = under_some (is_root n R) c h x in
            let lt : u.0 < c = u.1 in
            K.bef_whole h c k l
            (K.node_down u.3 (and_parts (is_group n R u.0) (eqb (parent n R u.0) n) u.2).0)
            (beside u.0 c (omega arith) l lt (root_parent u.0 u.2 ∙ sym pc) u.3 none)))),
      )

  item_walk : (g : ℕ) → Item n R g → Runs n R (start n R g) (walk n R n g) (end n R g)
  item_walk g i = walk_runs n g i (omega (arith, count_has n (λ h. leads n R h g) g i.0 (leads_whole n R within none)))

  preorder_runs : Runs n R 0 (preorder n R) (0 + count n (under n R (is_root n R) n))
  unfolding preorder
  preorder_runs = gather_all (is_root n R) roots_apart (walk n R n) 0 root_start
      (λ c l e. item_walk c (l, eqb-true (group n R c) c (and_parts (is_group n R c) (eqb (parent n R c) n) e).0))

  pub under_roots : (h : ℕ) → h < n → group n R h ≡ h → under n R (is_root n R) n h ≡ true
  under_roots h l e =
      let t = top n (parent n R) (tree n R) (rank n R) (forest n R within) (rank n R h) h (omega arith) l in
      under_hit (is_root n R) n h t.0 t.1 (root_is t.0 h e t.3 t.2) t.3

  start_fits : (g : ℕ) → Item n R g → start n R g < count n (under n R (is_root n R) n)
  unfolding start
  start_fits g i =
      let K = tests n R within in
      total_lt n (λ h. bit (group_before n R h g)) (λ h. bit (under n R (is_root n R) n h))
      (λ h l. bit_le (group_before n R h g) (under n R (is_root n R) n h) (λ e. under_roots h l (eqb-true (group n R h) h (K.bef_sound h g e).0)))
      g i.0
      (bit_lt (group_before n R g g) (under n R (is_root n R) n g)
      (refuted (group_before n R g g) (λ e. before_not_self n (parent n R) (tree n R) (rank n R) (forest n R within) (K.bef_sound g g e).1))
      (under_roots g i.0 i.1))

  pub starts_preorder : StartsArePreorder n R
  starts_preorder = record {
    group_at_start = λ g l e.
        let f = start_fits g (l, e) in
        let b : start n R g < length (preorder n R) = omega (arith, runs_length n R 0 (0 + count n (under n R (is_root n R) n)) (preorder n R) preorder_runs) in
        let r = runs_at n R 0 (0 + count n (under n R (is_root n R) n)) (preorder n R) preorder_runs (start n R g) b in
        (b, distinct_starts n R within (get_or (preorder n R) (start n R g) 0) g r.0 l r.1 e (omega (arith, r.2)));
    start_at = λ i l.
        let r = runs_at n R 0 (0 + count n (under n R (is_root n R) n)) (preorder n R) preorder_runs i l in
        (r.0, r.1, omega (arith, r.2));
    ends = λ g l e. runs_length n R (start n R g) (end n R g) (walk n R n g) (item_walk g (l, e));
  }
