-- Searches, sums and chains over the numbers below a count. Assumes nothing.
use Rattle.std.specs.Prelude.{◌≡◌, ℕ, zero, suc, ◌+◌, ◌<◌, Bool, true, false, cond, ◌&&◌, ◌||◌, List, filter, ◌==◌}
use Rattle.std.specs.List.{range_with_len}

-- Whether a number below n passes a test.
abbrev pub any : ℕ → (ℕ → Bool) → Bool
any zero p = false
any (suc k) p = p k || any k p

-- The sum of f over the numbers below n.
abbrev pub total : ℕ → (ℕ → ℕ) → ℕ
total zero f = 0
total (suc k) f = total k f + f k

-- How many numbers below n pass a test.
abbrev pub count : ℕ → (ℕ → Bool) → ℕ
count n p = total n (λ k. cond (p k) 1 0)

-- The least number below n that passes a test, or n where none does.
abbrev pub least : ℕ → (ℕ → Bool) → ℕ
least zero p = 0
least (suc k) p = cond (p (least k p)) (least k p) (suc k)

-- The numbers below n that pass a test, rising.
abbrev pub those : ℕ → (ℕ → Bool) → List ℕ
those n p = filter p (range_with_len 0 n)

-- A relation on numbers is a test. This one relates only numbers below n.
abbrev pub Within : ℕ → (ℕ → ℕ → Bool) → Type 0
Within n R = (u v : ℕ) → R u v ≡ true → (u < n) × (v < n)

-- A chain of steps of R from u to v, perhaps of no steps.
pub data Chain (R : ℕ → ℕ → Bool) : ℕ → ℕ → Type 0 where
  none : {u : ℕ} → Chain R u u
  step : {u w v : ℕ} → R u w ≡ true → Chain R w v → Chain R u v

-- Whether there is a chain from u to v on which all but the two ends are below k.
abbrev pub via : ℕ → (ℕ → ℕ → Bool) → ℕ → ℕ → Bool
via zero R u v = u == v || R u v
via (suc k) R u v = via k R u v || (via k R u k && via k R k v)
