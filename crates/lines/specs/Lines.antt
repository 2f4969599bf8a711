-- The lines of a file: what stands before, between and behind its bytes 0A, with nothing behind the last.
use Rattle.std.specs.Prelude.{ℕ, cond, List, [], ◌∷◌, ◌++◌, ◌==◌, ◌≢◌}
use Rattle.std.specs.List.{AllByRecursion}

-- a byte put before the first line
abbrev pub onto : ℕ → List (List ℕ) → List (List ℕ)
onto b [] = (b ∷ []) ∷ []
onto b (l ∷ ls) = (b ∷ l) ∷ ls

unfoldable pub lines_of : List ℕ → List (List ℕ)
lines_of [] = []
lines_of (b ∷ bs) = cond (b == 10) ([] ∷ lines_of bs) (onto b (lines_of bs))

-- lines with a 0A between each two
abbrev pub between : List (List ℕ) → List ℕ
between [] = []
between (l ∷ []) = l
between (l ∷ (m ∷ ms)) = l ++ (10 ∷ between (m ∷ ms))

-- the 0A that a file ends with, if it does
abbrev pub last_end : List ℕ → List ℕ
last_end [] = []
last_end (b ∷ []) = cond (b == 10) (10 ∷ []) []
last_end (b ∷ (c ∷ cs)) = last_end (c ∷ cs)

-- a line has no 0A
abbrev pub Clear : List ℕ → Type 0
Clear l = AllByRecursion (λ b. b ≢ 10) l

-- a line with its end
abbrev pub ended : List ℕ → List ℕ
ended l = l ++ (10 ∷ [])
