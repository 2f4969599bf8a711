-- Starts and sizes by counting: a start lies in an interval exactly under the interval's group. Assumes nothing.
use Rattle.std.proofs.Common.{◌≡◌, ℕ, ◌+◌, ◌<◌, ◌≤◌, Bool, true, false, sym, refl, inl, inr, arith}
use Rattle.std.proofs.lemmas.Bool.{cases_lt, cases_eq}
use Rattle.lineage.specs.Finite.{Chain, none, count}
use Rattle.lineage.proofs.Numbers.{refuted, total_le, total_lt, total_add, bit, bit_le, bit_lt, bit_or, bit_lt_or, bit_apart}
use Rattle.lineage.proofs.Reach.{chain_trans, chain_eq}
use Rattle.lineage.proofs.Forest.{Forest, Before, over, beside, diverge, before_not_self, before_down, before_up, before_beside, before_not_under}

-- Tests for what the forest has: `up a b` for a above b, `bef h g` for a node h before g
pub record Tests (n : ℕ) (par : ℕ → ℕ) (S : ℕ → ℕ → Bool) (node : ℕ → Bool) (up bef : ℕ → ℕ → Bool) : Type 0 where
  pub up_sound : (a b : ℕ) → up a b ≡ true → Chain S a b
  pub up_whole : (a b : ℕ) → a < n → b < n → Chain S a b → up a b ≡ true
  pub bef_sound : (h g : ℕ) → bef h g ≡ true → (node h ≡ true) × Before n par S h g
  pub bef_whole : (h g : ℕ) → h < n → g < n → node h ≡ true → Before n par S h g → bef h g ≡ true
  pub node_down : {a b : ℕ} → Chain S a b → node a ≡ true → node b ≡ true

module _ (n : ℕ) (par : ℕ → ℕ) (S : ℕ → ℕ → Bool) (rank : ℕ → ℕ) (F : Forest n par S rank)
    (node : ℕ → Bool) (up bef : ℕ → ℕ → Bool) (K : Tests n par S node up bef)
    (u v : ℕ) (u_in : u < n) (v_in : v < n) (u_node : node u ≡ true) (v_node : node v ≡ true) where
  in_order : Chain S u v → count n (λ h. bef h u) ≤ count n (λ h. bef h v)
  in_order c = total_le n (λ h. bit (bef h u)) (λ h. bit (bef h v)) (λ h l. bit_le (bef h u) (bef h v)
      (λ e. let b = K.bef_sound h u e in K.bef_whole h v l v_in b.0 (before_down n par S rank F c b.1)))

  in_reach : Chain S u v → count n (λ h. bef h v) < count n (λ h. bef h u) + count n (up u)
  in_reach c = omega (
    arith,
    total_add n (λ h. bit (bef h u)) (λ h. bit (up u h)),
    total_lt n (λ h. bit (bef h v)) (λ h. bit (bef h u) + bit (up u h))
        (λ h l. bit_or (bef h v) (bef h u) (up u h) (λ e.
        let b = K.bef_sound h v e in
        elim (before_up n par S rank F c b.1) [
          | inl x ↦ inl (K.bef_whole h u l u_in b.0 x)
          | inr x ↦ inr (K.up_whole u h u_in l x)
        ]))
        v v_in
        (bit_lt_or (bef v v) (bef v u) (up u v)
        (refuted (bef v v) (λ e. before_not_self n par S rank F (K.bef_sound v v e).1))
        (K.up_whole u v u_in v_in c)),
  )

  later : Chain S v u → (u ≡ v → ⊥) → count n (λ h. bef h v) < count n (λ h. bef h u)
  later c ne = total_lt n (λ h. bit (bef h v)) (λ h. bit (bef h u))
      (λ h l. bit_le (bef h v) (bef h u) (λ e.
      let b = K.bef_sound h v e in K.bef_whole h u l u_in b.0 (before_down n par S rank F c b.1)))
      v v_in
      (bit_lt (bef v v) (bef v u)
      (refuted (bef v v) (λ e. before_not_self n par S rank F (K.bef_sound v v e).1))
      (K.bef_whole v u v_in u_in v_node (over c (λ e. ne (sym e)))))

-- the interval of what stands under a lower sibling ends first
module _ (n : ℕ) (par : ℕ → ℕ) (S : ℕ → ℕ → Bool) (rank : ℕ → ℕ) (F : Forest n par S rank)
    (node : ℕ → Bool) (up bef : ℕ → ℕ → Bool) (K : Tests n par S node up bef) where
  earlier : (u v : ℕ) → u < n → v < n → node u ≡ true → (c d : ℕ) → c < n → d < n → c < d → par c ≡ par d → Chain S c u → Chain S d v →
      count n (λ h. bef h u) + count n (up u) ≤ count n (λ h. bef h v)
  earlier u v u_in v_in u_node c d l m lt e p q = omega (
    arith,
    total_add n (λ h. bit (bef h u)) (λ h. bit (up u h)),
    total_le n (λ h. bit (bef h u) + bit (up u h)) (λ h. bit (bef h v))
        (λ h k. bit_apart (bef h u) (up u h) (bef h v)
        (λ x y. before_not_under n par S rank F (K.bef_sound h u x).1 (K.up_sound u h y))
        (λ x. let b = K.bef_sound h u x in
        K.bef_whole h v k v_in b.0 (before_beside n par S rank F c d l m lt e p q b.1))
        (λ x. let y = K.up_sound u h x in
        K.bef_whole h v k v_in (K.node_down y u_node) (beside c d l m lt e (chain_trans S p y) q))),
  )

  own : (u : ℕ) → u < n → 0 < count n (up u)
  own u l = omega (
    arith,
    total_lt n (λ h. 0) (λ h. bit (up u h)) (λ h k. omega arith) u l
        (bit_lt false (up u u) refl (K.up_whole u u l l none)),
  )

  pub interval_of : (u v : ℕ) → u < n → v < n → node u ≡ true → node v ≡ true → Chain S u v →
      (count n (λ h. bef h u) ≤ count n (λ h. bef h v)) × (count n (λ h. bef h v) < count n (λ h. bef h u) + count n (up u))
  interval_of u v l m a b c =
      (in_order n par S rank F node up bef K u v l m a b c, in_reach n par S rank F node up bef K u v l m a b c)

  pub of_interval : (u v : ℕ) → u < n → v < n → node u ≡ true → node v ≡ true →
      count n (λ h. bef h u) ≤ count n (λ h. bef h v) → count n (λ h. bef h v) < count n (λ h. bef h u) + count n (up u) → Chain S u v
  of_interval u v l m a b low high = elim (diverge n par S rank F (rank u) u v (omega arith) l m) [
    | inl c ↦ c
    | inr (inl c) ↦ elim (cases_eq u v) [
      | inl e ↦ chain_eq S e
      | inr ne ↦ absurd (omega (arith, later n par S rank F node up bef K u v l m a b c ne))
    ]
    | inr (inr x) ↦ elim (cases_lt x.c x.d) [
      | inl lt ↦ absurd (omega (arith, earlier u v l m a x.c x.d x.c_in x.d_in lt x.siblings x.under_c x.under_d))
      | inr ge ↦ absurd (
          let ne : x.c ≡ x.d → ⊥ = x.differ in
          let gt : x.d < x.c = omega arith in
          omega (arith, own v m, earlier v u m l b x.d x.c x.d_in x.c_in gt (sym x.siblings) x.under_d x.under_c))
    ]
  ]
