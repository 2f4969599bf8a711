-- Groups without a search backwards: of two models, one leading to the other, each leads to the other exactly if they lead to equally many. Assumes nothing.
use Rattle.std.proofs.Common.{◌≡◌, ℕ, ◌<◌, ◌≤◌, Bool, true, inl, inr, arith}
use Rattle.std.proofs.lemmas.Bool.{cases_lt, cases_Bool}
use Rattle.lineage.specs.Finite.{none, count, Within}
use Rattle.lineage.specs.Book.{leads, group}
use Rattle.lineage.proofs.Numbers.{total_le, total_lt, bit, bit_le, bit_lt}
use Rattle.lineage.proofs.Groups.{leads_whole, leads_trans, group_least, group_both}

module _ (n : ℕ) (R : ℕ → ℕ → Bool) (within : Within n R) where
  -- who is led to leads to no more
  pub size_le : (u v : ℕ) → leads n R u v ≡ true → count n (leads n R v) ≤ count n (leads n R u)
  size_le u v e = total_le n (λ h. bit (leads n R v h)) (λ h. bit (leads n R u h))
      (λ h l. bit_le (leads n R v h) (leads n R u h) (λ x. leads_trans n R within u v h e x))

  pub size_back : (u v : ℕ) → u < n → leads n R u v ≡ true → count n (leads n R v) ≡ count n (leads n R u) → leads n R v u ≡ true
  size_back u v l e s = elim (cases_Bool (leads n R v u)) [
    | inl h ↦ h
    | inr h ↦ absurd (omega (
      arith,
      total_lt n (λ h. bit (leads n R v h)) (λ h. bit (leads n R u h))
          (λ h m. bit_le (leads n R v h) (leads n R u h) (λ x. leads_trans n R within u v h e x)) u l
          (bit_lt (leads n R v u) (leads n R u u) h (leads_whole n R within none)),
    ))
  ]

  pub size_same : (u v : ℕ) → leads n R u v ≡ true → leads n R v u ≡ true → count n (leads n R v) ≡ count n (leads n R u)
  size_same u v a b = omega (arith, size_le u v a, size_le v u b)

  -- the lowest that u leads to and that leads to as many as u names the group of u
  pub group_by_size : (u g : ℕ) → u < n → leads n R u g ≡ true → count n (leads n R g) ≡ count n (leads n R u) →
      ((k : ℕ) → k < g → leads n R u k ≡ true → count n (leads n R k) ≡ count n (leads n R u) → ⊥) → g ≡ group n R u
  group_by_size u g l e s first =
      let low = group_least n R within u g e (size_back u g l e s) in
      let b = group_both n R within u l in
      elim (cases_lt (group n R u) g) [
        | inl h ↦ absurd (first (group n R u) h b.0 (size_same u (group n R u) b.0 b.1))
        | inr h ↦ omega arith
      ]
