-- Words and columns of words written into a buffer.
use Rattle.std.proofs.Common.{◌≡◌, ℕ, ◌+◌, ◌*◌, ◌/◌, ◌%◌, ◌<◌, ◌≤◌, List, [], ◌∷◌, ◌++◌, map, length, get_or, take, set, sym, ap, ◌∙◌, arith}
use Rattle.std.proofs.lemmas.List.{map_more, length-take-le}
use Rattle.book.specs.declared.derivation.Derivation.{Derivation}
use Rattle.bookfile.specs.Files.{words, column}
use Rattle.text.specs.Placing.{placed}
use Rattle.bookfile.proofs.Arrays.{length_column, words_append}
use Rattle.text.proofs.Placing.{placed_one, placed_more, placed_append}

pub placed_word : (d : List ℕ) (at n : ℕ) → at + 2 ≤ length d → set (set d at (n % 256)) (at + 1) (n / 256) ≡ placed d at (words (n ∷ []))
placed_word d at n h =
    ap (λ xs. set xs (at + 1) (n / 256)) (placed_one d at (n % 256) (omega arith))
    ∙ placed_more d at (n % 256 ∷ []) (n / 256) (omega arith)

-- one more word of a column
pub column_more : (f : Derivation → ℕ) (d0 d1 d2 : List ℕ) (at end i m : ℕ) (ds : List Derivation) (e : Derivation) → i < length ds → at + 2 * length ds ≤ length d0
    → end ≡ at + 2 * i → d1 ≡ placed d0 at (column f (take i ds)) → m ≡ f (get_or ds i e) → d2 ≡ placed d1 end (words (m ∷ []))
    → d2 ≡ placed d0 at (column f (take (i + 1) ds))
column_more f d0 d1 d2 at end i m ds e h room l a w b =
    let xs : List ℕ = map f (take i ds) in
    let n : length (words xs) ≡ 2 * i = length_column f (take i ds) ∙ ap (λ k. 2 * k) (length-take-le i ds (omega arith)) in
    let k : end ≡ at + length (words xs) = omega arith in
    b ∙ ap (λ d. placed d end (words (m ∷ []))) a
    ∙ ap (λ j. placed (placed d0 at (words xs)) j (words (m ∷ []))) k
    ∙ placed_append d0 at (words xs) (words (m ∷ [])) (omega arith)
    ∙ ap (placed d0 at) (sym (words_append xs (m ∷ [])))
    ∙ ap (λ j. placed d0 at (words (xs ++ (j ∷ [])))) w
    ∙ ap (λ ys. placed d0 at (words ys)) (sym (map_more f ds i e h))
