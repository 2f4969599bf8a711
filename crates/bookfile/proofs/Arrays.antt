-- Numbers as words of two bytes and back, and two arrays as derivations and back.
use Rattle.std.proofs.Common.{◌≡◌, ℕ, zero, suc, ◌+◌, ◌-◌, ◌*◌, ◌/◌, ◌%◌, ◌<◌, min, List, [], ◌∷◌, ◌++◌, map, length, get_or, take, drop, refl, ap, ◌∙◌, arith}
use Rattle.std.proofs.lemmas.List.{take_at, drop_at, length-map, get_or-drop}
use Rattle.book.specs.declared.derivation.Derivation.{Derivation}
use Rattle.bookfile.specs.Files.{words, numbers, paired, derivations, column, first_models, second_models}

-- each is a byte
abbrev pub Bytes : List ℕ → Type 0
Bytes bs = (i : ℕ) → get_or bs i 0 < 256

pub bytes_take : (k : ℕ) (xs : List ℕ) → Bytes xs → (i : ℕ) → get_or (take k xs) i 0 < 256
bytes_take zero xs h i = omega arith
bytes_take (suc k) [] h i = omega arith
bytes_take (suc k) (x ∷ xs) h zero = h 0
bytes_take (suc k) (x ∷ xs) h (suc i) = bytes_take k xs (λ j. h (suc j)) i

pub bytes_drop : (k : ℕ) (xs : List ℕ) → Bytes xs → (i : ℕ) → get_or (drop k xs) i 0 < 256
bytes_drop k xs h i = rw get_or-drop (h (k + i))

pub length_words : (xs : List ℕ) → length (words xs) ≡ 2 * length xs
length_words [] = refl
length_words (x ∷ xs) = omega (arith, length_words xs)

pub words_append : (xs ys : List ℕ) → words (xs ++ ys) ≡ words xs ++ words ys
words_append [] ys = refl
words_append (x ∷ xs) ys = ap (λ zs. x % 256 ∷ (x / 256 ∷ zs)) (words_append xs ys)

pub numbers_words : (xs : List ℕ) → numbers (words xs) ≡ xs
numbers_words [] = refl
numbers_words (x ∷ xs) =
    let h : x % 256 + 256 * (x / 256) ≡ x = omega arith in
    let t : numbers (words xs) ≡ xs = numbers_words xs in
    cc

pub words_numbers : (bs : List ℕ) (k : ℕ) → Bytes bs → length bs ≡ 2 * k → words (numbers bs) ≡ bs
words_numbers [] k h e = refl
words_numbers (a ∷ []) k h e = absurd (omega arith)
words_numbers (a ∷ (b ∷ bs)) k h e =
    let la : a < 256 = h 0 in
    let lb : b < 256 = h 1 in
    let x : (a + 256 * b) % 256 ≡ a = omega arith in
    let y : (a + 256 * b) / 256 ≡ b = omega arith in
    let t : words (numbers bs) ≡ bs = words_numbers bs (k - 1) (λ i. h (suc (suc i))) (omega arith) in
    cc

pub length_numbers : (bs : List ℕ) → length (numbers bs) ≡ length bs / 2
length_numbers [] = refl
length_numbers (a ∷ []) = refl
length_numbers (a ∷ (b ∷ bs)) = let t = length_numbers bs in omega arith

-- derivations and their two columns

pub length_paired : (us vs : List ℕ) → length (paired us vs) ≡ min (length us) (length vs)
length_paired [] vs = omega arith
length_paired (u ∷ us) [] = omega arith
length_paired (u ∷ us) (v ∷ vs) = let t = length_paired us vs in omega arith

pub length_derivations : (xs ys : List ℕ) → length (derivations xs ys) ≡ min (length xs) (length ys) / 2
length_derivations xs ys =
    let u = length_numbers xs in
    let v = length_numbers ys in
    let p = length_paired (numbers xs) (numbers ys) in
    omega arith

pub firsts_paired : (us vs : List ℕ) → length us ≡ length vs → map (λ d. d.from) (paired us vs) ≡ us
firsts_paired [] vs e = refl
firsts_paired (u ∷ us) [] e = absurd (omega arith)
firsts_paired (u ∷ us) (v ∷ vs) e = ap (λ xs. u ∷ xs) (firsts_paired us vs (omega arith))

pub seconds_paired : (us vs : List ℕ) → length us ≡ length vs → map (λ d. d.to) (paired us vs) ≡ vs
seconds_paired [] [] e = refl
seconds_paired [] (v ∷ vs) e = absurd (omega arith)
seconds_paired (u ∷ us) [] e = absurd (omega arith)
seconds_paired (u ∷ us) (v ∷ vs) e = ap (λ xs. v ∷ xs) (seconds_paired us vs (omega arith))

pub paired_columns : (ds : List Derivation) → paired (map (λ d. d.from) ds) (map (λ d. d.to) ds) ≡ ds
paired_columns [] = refl
paired_columns (d ∷ ds) = ap (λ xs. d ∷ xs) (paired_columns ds)

pub length_column : (f : Derivation → ℕ) (ds : List Derivation) → length (column f ds) ≡ 2 * length ds
length_column f ds = length_words (map f ds) ∙ ap (λ k. 2 * k) (length-map ds f)

pub length_firsts : (ds : List Derivation) → length (first_models ds) ≡ 2 * length ds
length_firsts ds = length_column (λ d. d.from) ds

pub length_seconds : (ds : List Derivation) → length (second_models ds) ≡ 2 * length ds
length_seconds ds = length_column (λ d. d.to) ds

-- the two columns of derivations, split again, are the derivations
pub split_columns : (ds : List Derivation) → derivations (take (2 * length ds) (first_models ds ++ second_models ds)) (drop (2 * length ds) (first_models ds ++ second_models ds)) ≡ ds
split_columns ds =
    let l : length (first_models ds) ≡ 2 * length ds = length_firsts ds in
    ap (λ xs. derivations xs (drop (2 * length ds) (first_models ds ++ second_models ds))) (take_at (first_models ds) (second_models ds) (2 * length ds) l)
    ∙ ap (derivations (first_models ds)) (drop_at (first_models ds) (second_models ds) (2 * length ds) l)
    ∙ ap (λ us. paired us (numbers (second_models ds))) (numbers_words (map (λ d. d.from) ds))
    ∙ ap (paired (map (λ d. d.from) ds)) (numbers_words (map (λ d. d.to) ds))
    ∙ paired_columns ds
