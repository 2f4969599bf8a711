-- A whole file written: the two sizes, and then the two columns; and what is written reads back.
use Rattle.std.proofs.Common.{◌≡◌, ℕ, ◌+◌, ◌*◌, ◌≤◌, List, [], ◌∷◌, length, take, drop, Ok, sym, ap, ◌∙◌, arith}
use Rattle.std.proofs.lemmas.List.{take_at}
use Rattle.book.specs.declared.derivation.Derivation.{Derivation}
use Rattle.book.specs.Derivations.{Valid}
use Rattle.bookfile.specs.Files.{words, first_models, second_models, file}
use Rattle.text.specs.Placing.{placed}
use Rattle.bookfile.specs.Table.{file_refusal}
use Rattle.bookfile.specs.Writing.{Writes, ReadsBack}
use Rattle.bookfile.proofs.Arrays.{length_firsts, length_seconds}
use Rattle.text.proofs.Placing.{placed_append, placed_three}
use Rattle.bookfile.proofs.Files.{file_accepted, file_same, length_file}

-- the four writes of a file, one behind another
pub record Steps (n : ℕ) (ds : List Derivation) (out d1 d2 d3 d4 : List ℕ) (e1 e2 e3 e4 : ℕ) : Type 0 where
  pub room : 4 + 4 * length ds ≤ length out
  pub models : d1 ≡ placed out 0 (words (n ∷ []))
  pub models_end : e1 ≡ 0 + 2
  pub sizes : d2 ≡ placed d1 e1 (words (length ds ∷ []))
  pub sizes_end : e2 ≡ e1 + 2
  pub firsts : d3 ≡ placed d2 e2 (first_models ds)
  pub firsts_end : e3 ≡ e2 + 2 * length ds
  pub seconds : d4 ≡ placed d3 e3 (second_models ds)
  pub seconds_end : e4 ≡ e3 + 2 * length ds

pub written : {n : ℕ} {ds : List Derivation} {out d1 d2 d3 d4 : List ℕ} {e1 e2 e3 e4 : ℕ} → Steps n ds out d1 d2 d3 d4 e1 e2 e3 e4 → Writes n ds out (Ok e4) d4
written {n} {ds} {out} {d1} {d2} {d3} {d4} {e1} {e2} {e3} {e4} s =
    let room = s.room in
    let lf = length_firsts ds in
    let ls = length_seconds ds in
    let f1 : e1 ≡ 0 + 2 = s.models_end in
    let f2 : e2 ≡ 0 + 4 = s.sizes_end ∙ (omega arith) in
    let f3 : e3 ≡ e2 + length (first_models ds) = s.firsts_end ∙ (omega arith) in
    let f4 : e4 ≡ e3 + length (second_models ds) = s.seconds_end ∙ (omega arith) in
    let sizes : d2 ≡ placed out 0 (words (n ∷ (length ds ∷ [])))
    = s.sizes ∙ ap (λ d. placed d e1 (words (length ds ∷ []))) s.models ∙ ap (λ k. placed (placed out 0 (words (n ∷ []))) k (words (length ds ∷ []))) f1
    ∙ placed_append out 0 (words (n ∷ [])) (words (length ds ∷ [])) (omega arith) in
    let t = placed_three out d2 d3 d4 (words (n ∷ (length ds ∷ []))) (first_models ds) (second_models ds) e2 e3 e4 sizes f2 s.firsts f3 s.seconds f4 (omega arith) in
    (omega arith, omega arith, t.1)

pub reads_back : (n : ℕ) (ds : List Derivation) (out : List ℕ) (len : ℕ) (after : List ℕ) → Valid n ds → Writes n ds out (Ok len) after → ReadsBack n ds (Ok len) after
reads_back n ds out len after v w =
    let front : take len after ≡ file n ds = ap (take len) w.2 ∙ take_at (file n ds) (drop (0 + length (file n ds)) out) len (length_file n ds ∙ sym w.0) in
    (ap file_refusal front ∙ file_accepted n ds v, v, λ m es e. file_same m n es ds (sym e ∙ front))
