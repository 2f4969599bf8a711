-- How large the tables of a book are: t ≤ surplus, |T| ≤ t (t + 1) / 2. Assumes nothing.
use Rattle.std.proofs.Common.{◌≡◌, ℕ, ◌+◌, ◌*◌, ◌<◌, ◌≤◌, Bool, true, false, eqb, ◌⊎◌, length, sym, refl, ap, ◌∙◌, subst, inl, inr, mul-one, mul-add, arith}
use Rattle.std.proofs.lemmas.Bool.{eq-eqb}
use Rattle.lineage.specs.Finite.{Chain, none, step, total, count, any, Within}
use Rattle.lineage.specs.Closure.{Link, arrow, at, onward, reaches, spanned, T}
use Rattle.lineage.specs.Book.{leads, arc, surplus, parent, tree, start, end, link, toward, links}
use Rattle.lineage.specs.Theorems.{TablesAreSmall}
use Rattle.lineage.proofs.Numbers.{total_le, total_same, total_swap, total_each, total2_le, total2_add, count_has, count_one, any_some, bit, bit_le, bit_apart}
use Rattle.lineage.proofs.Rising.{in_at}
use Rattle.lineage.proofs.Reach.{via_sound}
use Rattle.lineage.proofs.Closure.{listed_few, onward_parts, X_few, Y_few}
use Rattle.lineage.proofs.Groups.{leads_trans, arc_acyclic}
use Rattle.lineage.proofs.Tree.{tree_arc, tree_whole, parent_in, interval_sound, distinct_starts}
use Rattle.lineage.proofs.Links.{link_arc, link_off, link_leads, link_ends, links_in, tree_leads}

-- a test on pairs of numbers below m that holds of a pair and its reverse only where both are one
both_ways : (p q e : Bool) → (p ≡ true → q ≡ true → e ≡ true) → bit p + bit q ≤ 1 + bit e
both_ways true true e h = omega (arith, bit_le true e (λ x. h refl refl))
both_ways true false e h = omega arith
both_ways false true e h = omega arith
both_ways false false e h = omega arith

half_of_square : (m : ℕ) (P : ℕ → ℕ → Bool) → ((p q : ℕ) → p < m → q < m → P p q ≡ true → P q p ≡ true → p ≡ q) → 2 * total m (λ p. count m (P p)) ≤ m * (m + 1)
half_of_square m P anti = omega (
  arith,
  total_swap m m (λ p q. bit (P q p)),
  total2_add m (λ p q. bit (P p q)) (λ p q. bit (P q p)),
  total2_le m (λ p q. bit (P p q) + bit (P q p)) (λ p q. 1 + bit (eqb q p))
      (λ p q l k. both_ways (P p q) (P q p) (eqb q p) (λ e f. eq-eqb q p (sym (anti p q l k e f)))),
  total2_add m (λ p q. 1) (λ p q. bit (eqb q p)),
  total_same m (λ p. total m (λ q. 1)) (λ p. m * 1) (λ p l. total_each m 1),
  total_each m (m * 1),
  mul-one m,
  total_same m (λ p. count m (λ q. eqb q p)) (λ p. 1) (λ p l. count_one m p l),
  total_each m 1,
  mul-add m m 1,
)

module _ (n : ℕ) (R : ℕ → ℕ → Bool) (within : Within n R) where
  -- the groups of the link at a place
  record Joins (p : ℕ) : Type 0 where
    a : ℕ
    b : ℕ
    is : link n R a b ≡ true
    shown : toward n R a b ≡ at (links n R) p

  joins : (p : ℕ) → p < length (links n R) → Joins p
  joins p l =
      let x = links_in n R within (at (links n R) p) (in_at (links n R) p (arrow 0 0 0) l) in
      record { a = x.0; b = x.1; is = x.2; shown = x.3 }

  same_source : (p q : ℕ) → p ≡ q → (x : Joins p) (y : Joins q) → x.a ≡ y.a
  same_source p q e x y =
      let f = link_ends n R within x.a x.b x.is in let g = link_ends n R within y.a y.b y.is in
      distinct_starts n R within x.a y.a f.a_in g.a_in f.a_group g.a_group
      (ap (λ (l : Link). l.from) x.shown ∙ (ap (λ (i : ℕ). (at (links n R) i).from) e ∙ sym (ap (λ (l : Link). l.from) y.shown)))

  step_leads : (p q : ℕ) → onward (links n R) p q ≡ true → (x : Joins p) (y : Joins q) → leads n R x.b y.a ≡ true
  step_leads p q e x y =
      let o = onward_parts (links n R) p q e in
      let f = link_ends n R within x.a x.b x.is in let g = link_ends n R within y.a y.b y.is in
      let s : start n R x.b ≡ (at (links n R) p).start = ap (λ (l : Link). l.start) x.shown in
      let t : end n R x.b ≡ (at (links n R) p).end = ap (λ (l : Link). l.end) x.shown in
      let u : start n R y.a ≡ (at (links n R) q).from = ap (λ (l : Link). l.from) y.shown in
      tree_leads n R within {a = x.b} {b = y.a} (interval_sound n R within x.b y.a f.b_in g.a_in f.b_group g.a_group (omega (arith, o.2)) (omega (arith, o.3)))

  -- a link that reaches another by going on is that link, or its target leads to the other's source
  chain_leads : {p q : ℕ} → Chain (onward (links n R)) p q → (x : Joins p) (y : Joins q) → (p ≡ q) ⊎ (leads n R x.b y.a ≡ true)
  chain_leads none x y = inl refl
  chain_leads {p} {q} (step {w = w} e c) x y =
      let z = joins w (onward_parts (links n R) p w e).1 in
      let h = step_leads p w e x z in
      inr (elim (chain_leads c z y) [
        | inl i ↦ subst (λ g. leads n R x.b g ≡ true) (same_source w q i z y) h
        | inr k ↦ leads_trans n R within x.b z.a y.a h (leads_trans n R within z.a z.b y.a (link_leads n R within z.a z.b z.is) k)
      ])

  one_way : (p q : ℕ) → p < length (links n R) → q < length (links n R) → reaches (links n R) p q ≡ true → reaches (links n R) q p ≡ true → p ≡ q
  one_way p q l m e f =
      let x = joins p l in let y = joins q m in
      elim (chain_leads (via_sound (onward (links n R)) (length (links n R)) p q e) x y) [
        | inl i ↦ i
        | inr h ↦ elim (chain_leads (via_sound (onward (links n R)) (length (links n R)) q p f) y x) [
          | inl i ↦ sym i
          | inr k ↦ absurd (arc_acyclic n R within x.a x.b (link_arc n R within x.a x.b x.is)
              (leads_trans n R within x.b y.a x.a h (leads_trans n R within y.a y.b x.a (link_leads n R within y.a y.b y.is) k)))
        ]
      ]

  members_few : 2 * length (T (links n R)) ≤ length (links n R) * (length (links n R) + 1)
  unfolding T
  members_few = omega (
    arith,
    listed_few (length (links n R)) (reaches (links n R)) (spanned (links n R)),
    half_of_square (length (links n R)) (reaches (links n R)) one_way,
  )

  -- an arc that is a link is no tree arc
  two_kinds : (a b : ℕ) → bit (link n R a b) + bit (tree n R a b) ≤ bit (arc n R a b)
  two_kinds a b = bit_apart (link n R a b) (tree n R a b) (arc n R a b)
      (λ x y. link_off n R within a b x (step y none))
      (link_arc n R within a b)
      (λ y. (tree_arc n R within a b y).1)

  one_parent : (b : ℕ) → bit (any n (λ a. arc n R a b)) ≤ count n (λ a. tree n R a b)
  one_parent b = go (any n (λ a. arc n R a b)) refl
    where
      go : (x : Bool) → any n (λ a. arc n R a b) ≡ x → bit x ≤ count n (λ a. tree n R a b)
      go true e =
          let s = any_some n (λ a. arc n R a b) e in
          let l = parent_in n R within s.0 b s.1 s.2 in
          omega (arith, count_has n (λ a. tree n R a b) (parent n R b) l (tree_whole n R within b l))
      go false e = omega arith

  pub links_few : length (links n R) ≤ surplus n R
  unfolding links surplus
  links_few = omega (
    arith,
    listed_few n (link n R) (toward n R),
    total2_le n (λ a b. bit (link n R a b) + bit (tree n R a b)) (λ a b. bit (arc n R a b)) (λ a b l m. two_kinds a b),
    total2_add n (λ a b. bit (link n R a b)) (λ a b. bit (tree n R a b)),
    total_swap n n (λ a b. bit (tree n R a b)),
    total_le n (λ b. bit (any n (λ a. arc n R a b))) (λ b. count n (λ a. tree n R a b)) (λ b l. one_parent b),
  )

  pub tables_small : TablesAreSmall n R
  tables_small = record { links_few = links_few; members_few = members_few; rows_few = X_few (links n R); columns_few = Y_few (links n R) }
