-- The bytes of a book file, and the derivations that they are the bytes of.
use Rattle.std.specs.Prelude.{ℕ, ◌+◌, ◌*◌, ◌/◌, ◌%◌, List, [], ◌∷◌, ◌++◌, map, length, take, drop}
use Rattle.book.specs.declared.derivation.Derivation.{Derivation}

-- numbers of 16 bits, each its low byte and then its high byte
abbrev pub words : List ℕ → List ℕ
words [] = []
words (x ∷ xs) = x % 256 ∷ (x / 256 ∷ words xs)

-- the numbers that bytes are the words of
abbrev pub numbers : List ℕ → List ℕ
numbers [] = []
numbers (a ∷ []) = []
numbers (a ∷ (b ∷ bs)) = (a + 256 * b) ∷ numbers bs

-- two parallel arrays as derivations
abbrev pub paired : List ℕ → List ℕ → List Derivation
paired [] vs = []
paired (u ∷ us) [] = []
paired (u ∷ us) (v ∷ vs) = record { from = u; to = v } ∷ paired us vs

-- the derivations of the bytes of all first models and of all second models
abbrev pub derivations : List ℕ → List ℕ → List Derivation
derivations firsts seconds = paired (numbers firsts) (numbers seconds)

-- the bytes of one number of each derivation
abbrev pub column : (Derivation → ℕ) → List Derivation → List ℕ
column f ds = words (map f ds)

-- the bytes of all first models, and of all second models
abbrev pub first_models : List Derivation → List ℕ
first_models ds = column (λ d. d.from) ds

abbrev pub second_models : List Derivation → List ℕ
second_models ds = column (λ d. d.to) ds

-- the file of a count and a list of derivations: the two sizes, all first models, all second models
abbrev pub file : ℕ → List Derivation → List ℕ
file n ds = words (n ∷ (length ds ∷ [])) ++ (first_models ds ++ second_models ds)

-- the count that the bytes of a file say
abbrev pub count_in : List ℕ → ℕ
count_in [] = 0
count_in (a ∷ []) = 0
count_in (a ∷ (b ∷ rest)) = a + 256 * b

-- the derivations that they say
abbrev pub derivations_in : List ℕ → List Derivation
derivations_in [] = []
derivations_in (a ∷ []) = []
derivations_in (a ∷ (b ∷ [])) = []
derivations_in (a ∷ (b ∷ (c ∷ []))) = []
derivations_in (a ∷ (b ∷ (c ∷ (d ∷ rest)))) = derivations (take (2 * (c + 256 * d)) rest) (drop (2 * (c + 256 * d)) rest)
