-- Numbering in preorder step by step, as running code does it: where the numbers stand between two children or two roots. Assumes nothing.
use Rattle.std.proofs.Common.{◌≡◌, ℕ, suc, ◌+◌, ◌<◌, Bool, true, false, ◌&&◌, ◌||◌, eqb, ◌⊎◌, refl, ap, ◌∙◌, subst, inl, inr, add-one, arith}
use Rattle.std.proofs.lemmas.Bool.{and_parts, or_cases, eqb-true}
use Rattle.lineage.specs.Finite.{Chain, count, Within}
use Rattle.lineage.specs.Book.{group, is_group, is_root, parent, tree, above, start, end}
use Rattle.lineage.proofs.Numbers.{total_same, total_none, bit, same_tests}
use Rattle.lineage.proofs.Forest.{up_first}
use Rattle.lineage.proofs.Groups.{rank, arc_to}
use Rattle.lineage.proofs.Tree.{forest, tests, tree_arc, tree_whole, tree_within, above_sound}
use Rattle.lineage.proofs.Listing.{under, under_some, under_hit, under_step, children_apart, roots_apart, under_roots, above_count, child_start, root_start}

-- what stands under the members of ch up to c
pub under_more : (n : ℕ) (R : ℕ → ℕ → Bool) (ch : ℕ → Bool) (c h : ℕ) → under n R ch (c + 1) h ≡ true → (under n R ch c h ≡ true) ⊎ ((ch c ≡ true) × (above n R c h ≡ true))
under_more n R ch c h e =
    let e' : ((ch c && above n R c h) || under n R ch c h) ≡ true = subst (λ (k : ℕ). under n R ch k h ≡ true) (add-one c) e in
    elim (or_cases (ch c && above n R c h) (under n R ch c h) e') [
      | inl x ↦ inr (and_parts (ch c) (above n R c h) x)
      | inr x ↦ inl x
    ]

-- passing over c
pub under_out : (n : ℕ) (R : ℕ → ℕ → Bool) (ch : ℕ → Bool) (c : ℕ) → ch c ≡ false → count n (under n R ch (c + 1)) ≡ count n (under n R ch c)
under_out n R ch c e =
    ap (λ (k : ℕ). count n (under n R ch k)) (add-one c)
    ∙ total_same n (λ h. bit (under n R ch (suc c) h)) (λ h. bit (under n R ch c h)) (λ h l. ap (λ (b : Bool). bit ((b && above n R c h) || under n R ch c h)) e)

pub under_start : (n : ℕ) (R : ℕ → ℕ → Bool) (ch : ℕ → Bool) → count n (under n R ch 0) ≡ 0
under_start n R ch = total_none n (λ h. 0) (λ h l. refl)

module _ (n : ℕ) (R : ℕ → ℕ → Bool) (within : Within n R) where
  -- going into c
  under_in : (ch : ℕ → Bool) → ((c d h : ℕ) → c < n → d < n → ch c ≡ true → ch d ≡ true → Chain (tree n R) c h → Chain (tree n R) d h → c ≡ d) →
      (s c : ℕ) → c < n → ch c ≡ true → start n R c ≡ s + count n (under n R ch c) → end n R c ≡ s + count n (under n R ch (c + 1))
  unfolding end
  under_in ch apart s c l e st =
      let up : count n (under n R ch (c + 1)) ≡ count n (under n R ch c) + count n (λ h. ch c && above n R c h) =
      ap (λ (k : ℕ). count n (under n R ch k)) (add-one c) ∙ under_step n R within ch apart c l in
      let all : count n (λ h. ch c && above n R c h) ≡ count n (above n R c) =
      total_same n (λ h. bit (ch c && above n R c h)) (λ h. bit (above n R c h)) (λ h k. ap (λ (b : Bool). bit (b && above n R c h)) e) in
      omega arith

  -- the children of g
  pub child_in : (g c : ℕ) → tree n R g c ≡ true → end n R c ≡ start n R g + 1 + count n (under n R (tree n R g) (c + 1))
  child_in g c e =
      under_in (tree n R g) (children_apart n R within g) (start n R g + 1) c (tree_within n R within g c e).1 e
      (omega (arith, child_start n R within g c e))

  pub child_first : (g c : ℕ) → tree n R g c ≡ true → start n R c ≡ start n R g + 1 + count n (under n R (tree n R g) c)
  child_first g c e = omega (arith, child_start n R within g c e)

  pub child_last : (g : ℕ) → g < n → end n R g ≡ start n R g + 1 + count n (under n R (tree n R g) n)
  unfolding end
  child_last g l = omega (arith, above_count n R within g l)

  pub above_cases : (g h : ℕ) → above n R g h ≡ true → (g ≡ h) ⊎ (under n R (tree n R g) n h ≡ true)
  above_cases g h e = elim (up_first n (parent n R) (tree n R) (rank n R) (forest n R within) (above_sound n R within g h e)) [
    | inl i ↦ inl i
    | inr x ↦ inr (under_hit n R within (tree n R g) n h x.0 (tree_within n R within g x.0 x.1).1 x.1 x.2)
  ]

  pub child_is : (g c : ℕ) → g < n → parent n R c ≡ g → tree n R g c ≡ true
  child_is g c l e = subst (λ (x : ℕ). tree n R x c ≡ true) e (tree_whole n R within c (omega arith))

  pub child_group : (g c : ℕ) → tree n R g c ≡ true → group n R c ≡ c
  child_group g c e = arc_to n R within g c (tree_arc n R within g c e).1

  -- the roots
  pub root_in : (c : ℕ) → c < n → is_root n R c ≡ true → end n R c ≡ count n (under n R (is_root n R) (c + 1))
  root_in c l e = omega (arith, under_in (is_root n R) (roots_apart n R within) 0 c l e (root_start n R within c l e))

  -- every group stands under a root
  pub roots_all : count n (under n R (is_root n R) n) ≡ count n (is_group n R)
  roots_all = total_same n (λ h. bit (under n R (is_root n R) n h)) (λ h. bit (is_group n R h)) (λ h l.
      ap bit (same_tests (under n R (is_root n R) n h) (is_group n R h)
      (λ e. let s = under_some n R within (is_root n R) n h e in
      (tests n R within).node_down s.3 (and_parts (is_group n R s.0) (eqb (parent n R s.0) n) s.2).0)
      (λ e. under_roots n R within h l (eqb-true (group n R h) h e))))
