-- The tree parents of a book are a forest, and the intervals tell its ancestors. Assumes nothing.
use Rattle.std.proofs.Common.{◌≡◌, ℕ, ◌+◌, ◌<◌, ◌≤◌, Bool, true, not, ◌&&◌, eqb, ltb, leb, sym, refl, ◌∙◌, subst, inl, inr, arith}
use Rattle.std.proofs.lemmas.Bool.{cases_lt, cases_Bool, true≢false, and_parts, and_from, or_cases, or_left, or_right, eqb-true, eqb-false, eq-eqb, ne_eqb, not_from_false, ltb-true, leb-true, lt-ltb, le-leb, not-true as false_from_not}
use Rattle.lineage.specs.Finite.{Chain, none, step, any, Within}
use Rattle.lineage.specs.Book.{group, is_group, arc, parent, tree, above, before, start, end, inside}
use Rattle.lineage.proofs.Numbers.{refuted, any_hit, any_some, Least, least_is, count_misses, count_fits, total_add, total_le, bit, bit_apart}
use Rattle.lineage.proofs.Reach.{via_sound, via_whole}
use Rattle.lineage.proofs.Forest.{Forest, Before, over, beside, before_not_self, before_not_under, up_anti}
use Rattle.lineage.proofs.Preorder.{Tests, interval_of, of_interval}
use Rattle.lineage.proofs.Groups.{rank, arc_rank, arc_sound, arc_to}

abbrev pub group_before : (n : ℕ) → (ℕ → ℕ → Bool) → ℕ → ℕ → Bool
group_before n R h g = is_group n R h && before n R h g

module _ (n : ℕ) (R : ℕ → ℕ → Bool) (within : Within n R) where
  parent_is : (b : ℕ) → Least n (λ a. arc n R a b) (parent n R b)
  unfolding parent
  parent_is b = least_is n (λ a. arc n R a b)

  pub parent_arc : (b : ℕ) → parent n R b < n → arc n R (parent n R b) b ≡ true
  parent_arc b m = (parent_is b).hit m

  pub parent_in : (a b : ℕ) → a < n → arc n R a b ≡ true → parent n R b < n
  parent_in a b l e = elim (cases_lt (parent n R b) n) [
    | inl h ↦ h
    | inr h ↦ absurd (true≢false (sym e ∙ (parent_is b).under a (omega arith)))
  ]

  pub parent_most : (a b : ℕ) → arc n R a b ≡ true → parent n R b ≤ a
  parent_most a b e = elim (cases_lt a (parent n R b)) [
    | inl h ↦ absurd (true≢false (sym e ∙ (parent_is b).under a h))
    | inr h ↦ h
  ]

  pub parent_fits : (b : ℕ) → parent n R b ≤ n
  parent_fits b = (parent_is b).within

  pub tree_arc : (a b : ℕ) → tree n R a b ≡ true → (parent n R b ≡ a) × (arc n R a b ≡ true)
  unfolding tree
  tree_arc a b e =
      let p = and_parts (ltb a n) (eqb (parent n R b) a) e in
      let l = ltb-true a n p.0 in
      let s = eqb-true (parent n R b) a p.1 in
      (s, subst (λ (x : ℕ). arc n R x b ≡ true) s (parent_arc b (omega arith)))

  pub tree_whole : (b : ℕ) → parent n R b < n → tree n R (parent n R b) b ≡ true
  unfolding tree
  tree_whole b m = and_from (ltb (parent n R b) n) (eqb (parent n R b) (parent n R b)) (lt-ltb (parent n R b) n m) (eq-eqb (parent n R b) (parent n R b) refl)

  pub tree_within : Within n (tree n R)
  tree_within a b e = let s = arc_sound n R within a b (tree_arc a b e).1 in (s.0, s.1)

  pub above_sound : (a b : ℕ) → above n R a b ≡ true → Chain (tree n R) a b
  unfolding above
  above_sound a b e = via_sound (tree n R) n a b e

  pub above_whole : {a b : ℕ} → Chain (tree n R) a b → above n R a b ≡ true
  unfolding above
  above_whole c = via_whole (tree n R) n tree_within c

  pub forest : Forest n (parent n R) (tree n R) (rank n R)
  forest = record {
    low = λ a b e. (tree_within a b e).0;
    high = λ a b e. (tree_within a b e).1;
    is = λ a b e. (tree_arc a b e).0;
    of = λ b l m. tree_whole b m;
    root = parent_fits;
    rises = λ a b e. arc_rank n R within a b (tree_arc a b e).1;
    whether = λ a b l m. elim (cases_Bool (above n R a b)) [
      | inl e ↦ inl (above_sound a b e)
      | inr e ↦ inr (λ c. true≢false (sym (above_whole c) ∙ e))
    ];
  }

  before_sound : (h g : ℕ) → before n R h g ≡ true → Before n (parent n R) (tree n R) h g
  unfolding before
  before_sound h g e = elim (or_cases (above n R h g && not (eqb h g)) (any n (λ d. above n R d g && any n (λ c. ltb c d && eqb (parent n R c) (parent n R d) && above n R c h))) e) [
    | inl x ↦ let p = and_parts (above n R h g) (not (eqb h g)) x in
        over (above_sound h g p.0) (eqb-false h g (false_from_not (eqb h g) p.1))
    | inr x ↦
        let y = any_some n (λ d. above n R d g && any n (λ c. ltb c d && eqb (parent n R c) (parent n R d) && above n R c h)) x in
        let d = y.0 in
        let p = and_parts (above n R d g) (any n (λ c. ltb c d && eqb (parent n R c) (parent n R d) && above n R c h)) y.2 in
        let z = any_some n (λ c. ltb c d && eqb (parent n R c) (parent n R d) && above n R c h) p.1 in
        let c = z.0 in
        let q = and_parts (ltb c d && eqb (parent n R c) (parent n R d)) (above n R c h) z.2 in
        let r = and_parts (ltb c d) (eqb (parent n R c) (parent n R d)) q.0 in
        beside c d z.1 y.1 (ltb-true c d r.0) (eqb-true (parent n R c) (parent n R d) r.1)
        (above_sound c h q.1) (above_sound d g p.0)
  ]

  before_whole : (h g : ℕ) → Before n (parent n R) (tree n R) h g → before n R h g ≡ true
  unfolding before
  before_whole h g (over c ne) =
      or_left (above n R h g && not (eqb h g)) (any n (λ d. above n R d g && any n (λ c. ltb c d && eqb (parent n R c) (parent n R d) && above n R c h)))
      (and_from (above n R h g) (not (eqb h g)) (above_whole c) (not_from_false (eqb h g) (ne_eqb h g ne)))
  before_whole h g (beside c d ci di lt e p q) =
      or_right (above n R h g && not (eqb h g)) (any n (λ d. above n R d g && any n (λ c. ltb c d && eqb (parent n R c) (parent n R d) && above n R c h)))
      (any_hit n (λ d. above n R d g && any n (λ c. ltb c d && eqb (parent n R c) (parent n R d) && above n R c h)) d di
      (and_from (above n R d g) (any n (λ c. ltb c d && eqb (parent n R c) (parent n R d) && above n R c h))
      (above_whole q)
      (any_hit n (λ c. ltb c d && eqb (parent n R c) (parent n R d) && above n R c h) c ci
      (and_from (ltb c d && eqb (parent n R c) (parent n R d)) (above n R c h)
      (and_from (ltb c d) (eqb (parent n R c) (parent n R d)) (lt-ltb c d lt) (eq-eqb (parent n R c) (parent n R d) e))
      (above_whole p)))))

  group_down : {a b : ℕ} → Chain (tree n R) a b → is_group n R a ≡ true → is_group n R b ≡ true
  group_down none e = e
  group_down {a} {b} (step {w = w} s c) e =
      group_down c (eq-eqb (group n R w) w (arc_to n R within a w (tree_arc a w s).1))

  pub tests : Tests n (parent n R) (tree n R) (is_group n R) (above n R) (group_before n R)
  tests = record {
    up_sound = above_sound;
    up_whole = λ a b l m c. above_whole c;
    bef_sound = λ h g e. let p = and_parts (eqb (group n R h) h) (before n R h g) e in (p.0, before_sound h g p.1);
    bef_whole = λ h g l m e b. and_from (eqb (group n R h) h) (before n R h g) e (before_whole h g b);
    node_down = group_down;
  }

  -- starts are below n
  pub start_below : (g : ℕ) → g < n → start n R g < n
  unfolding start
  start_below g l =
      count_misses n (λ h. group_before n R h g) g l
      (refuted (group_before n R g g) (λ e. before_not_self n (parent n R) (tree n R) (rank n R) forest (tests.bef_sound g g e).1))

  -- and ends at most n
  pub end_below : (g : ℕ) → end n R g ≤ n
  unfolding start end
  end_below g = omega (
    arith,
    total_add n (λ h. bit (group_before n R h g)) (λ h. bit (above n R g h)),
    total_le n (λ h. bit (group_before n R h g) + bit (above n R g h)) (λ h. bit true)
        (λ h l. bit_apart (group_before n R h g) (above n R g h) true
        (λ x y. before_not_under n (parent n R) (tree n R) (rank n R) forest (tests.bef_sound h g x).1 (above_sound g h y))
        (λ x. refl) (λ x. refl)),
    count_fits n (λ h. true),
  )

  module _ (u v : ℕ) (l : u < n) (m : v < n) (a : group n R u ≡ u) (b : group n R v ≡ v) where
    pub interval_whole : Chain (tree n R) u v → (start n R u ≤ start n R v) × (start n R v < end n R u)
    unfolding start end
    interval_whole c =
        interval_of n (parent n R) (tree n R) (rank n R) forest (is_group n R) (above n R) (group_before n R) tests u v l m (eq-eqb (group n R u) u a) (eq-eqb (group n R v) v b) c

    pub interval_sound : start n R u ≤ start n R v → start n R v < end n R u → Chain (tree n R) u v
    unfolding start end
    interval_sound x y =
        of_interval n (parent n R) (tree n R) (rank n R) forest (is_group n R) (above n R) (group_before n R) tests u v l m (eq-eqb (group n R u) u a) (eq-eqb (group n R v) v b) x y

    pub inside_sound : inside n R u v ≡ true → Chain (tree n R) u v
    unfolding inside
    inside_sound e =
        let p = and_parts (leb (start n R u) (start n R v)) (ltb (start n R v) (end n R u)) e in
        interval_sound (leb-true (start n R u) (start n R v) p.0) (ltb-true (start n R v) (end n R u) p.1)

    pub inside_whole : Chain (tree n R) u v → inside n R u v ≡ true
    unfolding inside
    inside_whole c =
        let p = interval_whole c in
        and_from (leb (start n R u) (start n R v)) (ltb (start n R v) (end n R u)) (le-leb (start n R u) (start n R v) p.0) (lt-ltb (start n R v) (end n R u) p.1)

  -- groups have different starts
  pub distinct_starts : (x y : ℕ) → x < n → y < n → group n R x ≡ x → group n R y ≡ y → start n R x ≡ start n R y → x ≡ y
  distinct_starts x y l m a b e =
      let p = (interval_whole x x l l a a none).1 in let q = (interval_whole y y m m b b none).1 in
      up_anti n (parent n R) (tree n R) (rank n R) forest
      (interval_sound x y l m a b (omega arith) (omega arith)) (interval_sound y x m l b a (omega arith) (omega arith))
