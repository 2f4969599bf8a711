-- Rising lists of keys, and a key found in, put into and taken out of one.
use Rattle.std.specs.Prelude.{◌≡◌, ℕ, suc, ◌≤◌, Bool, true, false, cond, ◌&&◌, List, [], ◌∷◌, length, take, Ok, Err, Result}
use Rattle.std.specs.declared.cmp.Ordering.{Ordering}
use Rattle.std.specs.Ordering.{is_lt, match_ordering}

-- whether x is below the first key of a list, if it has one
abbrev pub below_first : {K : Type 0} → (K → K → Ordering) → K → List K → Bool
below_first cmp x [] = true
below_first cmp x (y ∷ ys) = is_lt (cmp x y)

-- whether each key is below the next
abbrev pub rising : {K : Type 0} → (K → K → Ordering) → List K → Bool
rising cmp [] = true
rising cmp (x ∷ xs) = below_first cmp x xs && rising cmp xs

-- how many keys stand before the first that is not below k
abbrev pub place : {K : Type 0} → (K → K → Ordering) → List K → K → ℕ
place cmp [] k = 0
place cmp (x ∷ xs) k = match_ordering (cmp x k) (suc (place cmp xs k)) 0 0

-- whether k stands in a rising list
abbrev pub stands : {K : Type 0} → (K → K → Ordering) → List K → K → Bool
stands cmp [] k = false
stands cmp (x ∷ xs) k = match_ordering (cmp x k) (stands cmp xs k) true false

-- a rising list with k, at its place
abbrev pub insert : {K : Type 0} → (K → K → Ordering) → List K → K → List K
insert cmp [] k = k ∷ []
insert cmp (x ∷ xs) k = match_ordering (cmp x k) (x ∷ insert cmp xs k) (x ∷ xs) (k ∷ x ∷ xs)

-- a rising list without k
abbrev pub delete : {K : Type 0} → (K → K → Ordering) → List K → K → List K
delete cmp [] k = []
delete cmp (x ∷ xs) k = match_ordering (cmp x k) (x ∷ delete cmp xs k) xs (x ∷ xs)

-- where k stands in a rising list, or else where it would go
abbrev pub sought : {K : Type 0} → (K → K → Ordering) → List K → K → Result ℕ ℕ
sought cmp xs k = cond (stands cmp xs k) (Ok (place cmp xs k)) (Err (place cmp xs k))

-- the first n of a memory are a list, and rise
pub record Sound {K : Type 0} (cmp : K → K → Ordering) (mem : List K) (n : ℕ) : Type 0 where
  pub fits : n ≤ length mem
  pub rises : rising cmp (take n mem) ≡ true
