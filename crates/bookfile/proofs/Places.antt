-- The derivation at a place of the two arrays.
use Rattle.std.proofs.Common.{◌≡◌, ℕ, zero, suc, ◌+◌, ◌*◌, ◌<◌, List, [], ◌∷◌, length, get_or, Some, sym, ap, ◌∙◌, arith}
use Rattle.std.specs.List.{slice_get}
use Rattle.book.specs.declared.derivation.Derivation.{Derivation}
use Rattle.bookfile.specs.Files.{derivations}

-- the number of the two bytes at a place
abbrev pub number_at : List ℕ → ℕ → ℕ
number_at bs i = get_or bs (2 * i) 0 + 256 * get_or bs (2 * i + 1) 0

number_at_more : (a b : ℕ) (bs : List ℕ) (i : ℕ) → number_at (a ∷ (b ∷ bs)) (suc i) ≡ number_at bs i
number_at_more a b bs i =
    let x : 2 * suc i ≡ suc (suc (2 * i)) = omega arith in
    let y : 2 * suc i + 1 ≡ suc (suc (2 * i + 1)) = omega arith in
    ap (λ k. get_or (a ∷ (b ∷ bs)) k 0 + 256 * get_or (a ∷ (b ∷ bs)) (2 * suc i + 1) 0) x
    ∙ ap (λ k. get_or bs (2 * i) 0 + 256 * get_or (a ∷ (b ∷ bs)) k 0) y

pub place_shows : (xs ys : List ℕ) (i : ℕ) (d : Derivation) → 2 * i + 1 < length xs → 2 * i + 1 < length ys
    → d.from ≡ number_at xs i → d.to ≡ number_at ys i → slice_get (derivations xs ys) i ≡ Some d
place_shows [] ys i d h k e f = absurd (omega arith)
place_shows (a ∷ []) ys i d h k e f = absurd (omega arith)
place_shows (a ∷ (b ∷ xs)) [] i d h k e f = absurd (omega arith)
place_shows (a ∷ (b ∷ xs)) (c ∷ []) i d h k e f = absurd (omega arith)
place_shows (a ∷ (b ∷ xs)) (c ∷ (g ∷ ys)) zero d h k e f = ap Some (λ j. record { from = sym e j; to = sym f j })
place_shows (a ∷ (b ∷ xs)) (c ∷ (g ∷ ys)) (suc i) d h k e f =
    place_shows xs ys i d (omega arith) (omega arith) (e ∙ number_at_more a b xs i) (f ∙ number_at_more c g ys i)
