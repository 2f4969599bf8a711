-- The halving search as a function on lists, which answers whether or not the list rises.
use Rattle.std.specs.Prelude.{ℕ, zero, suc, ◌+◌, ◌-◌, ◌/◌, cond, List, length, Ok, Err, Result, nat_lt, slice_index_or}
use Rattle.std.specs.declared.cmp.Ordering.{Ordering}
use Rattle.std.specs.Ordering.{match_ordering}

abbrev pub middle : ℕ → ℕ → ℕ
middle low high = low + (high - low) / 2

-- the search for k from low up to high, in so many turns at most: each looks at the key in the middle, and goes on in one half
abbrev pub halve : {K : Type 0} → (K → K → Ordering) → ℕ → List K → K → ℕ → ℕ → Result ℕ ℕ
halve cmp zero xs k low high = Err low
halve cmp (suc turns) xs k low high =
    cond (nat_lt low high)
    (match_ordering (cmp (slice_index_or xs (middle low high) k) k) (halve cmp turns xs k (middle low high + 1) high) (Ok (middle low high)) (halve cmp turns xs k low (middle low high)))
    (Err low)

-- the place where the search meets k, or else where it ends
abbrev pub halving : {K : Type 0} → (K → K → Ordering) → List K → K → Result ℕ ℕ
halving cmp xs k = halve cmp (length xs) xs k 0 (length xs)
