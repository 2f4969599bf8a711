-- Accepted are exactly the files of valid books, and a file is that of one book alone.
use Rattle.std.proofs.Common.{◌≡◌, ℕ, suc, ◌+◌, ◌*◌, ◌/◌, ◌%◌, ◌<◌, ◌≤◌, Bool, true, false, cond, ◌||◌, eqb, ltb, List, [], ◌∷◌, ◌++◌, map, length, take, drop, Some, None, Ok, Err, Option, Result, sym, refl, ap, ◌∙◌, subst, arith}
use Rattle.std.specs.Option.{option_map}
use Rattle.std.proofs.lemmas.List.{take-append-drop, length-append, length-map, length-take-le, length-drop}
use Rattle.std.proofs.lemmas.Bool.{or_parts, or_from, ltb-false, le-ltb, eqb-true, eq-eqb}
use Rattle.book.specs.declared.derivation.Derivation.{Derivation}
use Rattle.book.specs.declared.refusal.Refusal.{Refusal}
use Rattle.book.specs.declared.refusal.Refusal.TheVariants.{CountOutOfRange}
use Rattle.book.specs.Counts.{count_refusal}
use Rattle.book.specs.Refusals.{Answers}
use Rattle.book.specs.Derivations.{Valid}
use Rattle.bookfile.specs.declared.checked.BookFile.{BookFile}
use Rattle.bookfile.specs.declared.refusal.FileRefusal.{FileRefusal}
use Rattle.bookfile.specs.declared.refusal.FileRefusal.TheVariants.{Book, WrongLength, TooMany}
use Rattle.bookfile.specs.Files.{words, numbers, derivations, first_models, second_models, file, count_in, derivations_in}
use Rattle.bookfile.specs.Table.{places_refusal, sizes_refusal, file_refusal}
use Rattle.bookfile.specs.Checked.{count_shown, shown, Splits, Accepts, Reads}
use Rattle.bookfile.proofs.Arrays.{Bytes, bytes_take, bytes_drop, length_firsts, length_seconds, words_numbers, length_numbers, firsts_paired, seconds_paired, split_columns}
use Rattle.bookfile.proofs.Table.{first_none, mapped_none, places_valid, valid_places}

-- the checks of the sizes

count_none : (b : Bool) → ◌≡◌ {A = Option Refusal} (cond b (Some CountOutOfRange) None) None → b ≡ false
count_none true e = cc
count_none false e = refl

-- a count that is not refused is from 1 to 1,024
pub count_within : (n : ℕ) → count_refusal n ≡ None → (1 ≤ n) × (n ≤ 1024)
count_within n e =
    let p = or_parts (ltb n 1) (ltb 1024 n) (count_none (ltb n 1 || ltb 1024 n) e) in
    (ltb-false n 1 p.0, ltb-false 1024 n p.1)

pub within_count : (n : ℕ) → 1 ≤ n → n ≤ 1024 → count_refusal n ≡ None
within_count n a b = rw (or_from (ltb n 1) (ltb 1024 n) (le-ltb n 1 a) (le-ltb 1024 n b)) refl

sizes_none : (a b : Bool) (x : Option FileRefusal) → cond a (Some TooMany) (cond b x (Some WrongLength)) ≡ None → (a ≡ false) × (b ≡ true) × (x ≡ None)
sizes_none true b x e = cc
sizes_none false true x e = (refl, refl, e)
sizes_none false false x e = cc

-- the sizes in front, read
sized : (n d : ℕ) (rest : List ℕ) → file_refusal (words (n ∷ (d ∷ [])) ++ rest) ≡ sizes_refusal n d rest
sized n d rest =
    let x : n % 256 + 256 * (n / 256) ≡ n = omega arith in
    let y : d % 256 + 256 * (d / 256) ≡ d = omega arith in
    ap (λ m. sizes_refusal m (d % 256 + 256 * (d / 256)) rest) x ∙ ap (λ m. sizes_refusal n m rest) y

-- the file of a valid book is accepted
pub file_accepted : (n : ℕ) (ds : List Derivation) → Valid n ds → file_refusal (file n ds) ≡ None
file_accepted n ds v =
    let rest : List ℕ = first_models ds ++ second_models ds in
    let l : length rest ≡ 4 * length ds = omega (arith, length-append (first_models ds) (second_models ds), length_firsts ds, length_seconds ds) in
    sized n (length ds) rest
    ∙ rw (within_count n v.some v.most, le-ltb 2048 (length ds) v.few, eq-eqb (length rest) (4 * length ds) l) (ap (places_refusal n None) (split_columns ds) ∙ valid_places n None ds v.proper v.rises)

-- what is accepted is the file of a valid book

record Holds (n d : ℕ) (rest : List ℕ) (ds : List Derivation) : Type 0 where
  valid : Valid n ds
  many : length ds ≡ d
  whole : rest ≡ first_models ds ++ second_models ds

-- the sizes of what is accepted, and that it is valid
record Sizes (n d : ℕ) (rest : List ℕ) (ds : List Derivation) : Type 0 where
  firsts_long : length (take (2 * d) rest) ≡ 2 * d
  seconds_long : length (drop (2 * d) rest) ≡ 2 * d
  alike : length (numbers (take (2 * d) rest)) ≡ length (numbers (drop (2 * d) rest))
  many : length ds ≡ d
  valid : Valid n ds

sizes_valid : (n d : ℕ) (rest : List ℕ) → sizes_refusal n d rest ≡ None → Sizes n d rest (derivations (take (2 * d) rest) (drop (2 * d) rest))
sizes_valid n d rest e =
    let us : List ℕ = take (2 * d) rest in
    let vs : List ℕ = drop (2 * d) rest in
    let o = first_none (option_map Book (count_refusal n)) _ e in
    let t = sizes_none (ltb 2048 d) (eqb (length rest) (4 * d)) (places_refusal n None (derivations us vs)) o.1 in
    let c = count_within n (mapped_none (count_refusal n) o.0) in
    let few : d ≤ 2048 = ltb-false 2048 d t.0 in
    let len : length rest ≡ 4 * d = eqb-true (length rest) (4 * d) t.1 in
    let lu : length us ≡ 2 * d = length-take-le (2 * d) rest (omega arith) in
    let lv : length vs ≡ 2 * d = length-drop (2 * d) rest ∙ (omega arith) in
    let nu : length (numbers us) ≡ d = length_numbers us ∙ (omega arith) in
    let nv : length (numbers vs) ≡ d = length_numbers vs ∙ (omega arith) in
    let f = places_valid n None (derivations us vs) t.2 in
    let many : length (derivations us vs) ≡ d = sym (length-map (derivations us vs) (λ d. d.from)) ∙ ap length (firsts_paired (numbers us) (numbers vs) (nu ∙ sym nv)) ∙ nu in
    record {
      firsts_long = lu;
      seconds_long = lv;
      alike = nu ∙ sym nv;
      many = many;
      valid = record { some = c.0; most = c.1; few = omega arith; rises = f.1; proper = f.0 };
    }

sizes_hold : (n d : ℕ) (rest : List ℕ) → Bytes rest → sizes_refusal n d rest ≡ None → Holds n d rest (derivations (take (2 * d) rest) (drop (2 * d) rest))
sizes_hold n d rest h e =
    let us : List ℕ = take (2 * d) rest in
    let vs : List ℕ = drop (2 * d) rest in
    let z = sizes_valid n d rest e in
    let mf : map (λ d. d.from) (derivations us vs) ≡ numbers us = firsts_paired (numbers us) (numbers vs) z.alike in
    let ms : map (λ d. d.to) (derivations us vs) ≡ numbers vs = seconds_paired (numbers us) (numbers vs) z.alike in
    record {
      valid = z.valid;
      many = z.many;
      whole = sym (take-append-drop (2 * d) rest)
          ∙ ap (λ xs. xs ++ vs) (sym (words_numbers us d (bytes_take (2 * d) rest h) z.firsts_long)) ∙ ap (λ xs. words (numbers us) ++ xs) (sym (words_numbers vs d (bytes_drop (2 * d) rest h) z.seconds_long))
          ∙ ap (λ xs. words xs ++ words (numbers vs)) (sym mf) ∙ ap (λ xs. first_models (derivations us vs) ++ words xs) (sym ms);
    }

-- what an accepted file says is valid
pub accepted_valid : (bytes : List ℕ) → file_refusal bytes ≡ None → Valid (count_in bytes) (derivations_in bytes)
accepted_valid [] e = cc
accepted_valid (a ∷ []) e = cc
accepted_valid (a ∷ (b ∷ [])) e = cc
accepted_valid (a ∷ (b ∷ (c ∷ []))) e = cc
accepted_valid (a ∷ (b ∷ (c ∷ (d ∷ rest)))) e = (sizes_valid (a + 256 * b) (c + 256 * d) rest e).valid

-- a file cut into its two sizes and its rest
pub record Cut (bytes : List ℕ) (n d : ℕ) (rest : List ℕ) : Type 0 where
  pub a : ℕ
  pub b : ℕ
  pub c : ℕ
  pub e : ℕ
  pub whole : bytes ≡ a ∷ (b ∷ (c ∷ (e ∷ rest)))
  pub n_is : n ≡ a + 256 * b
  pub d_is : d ≡ c + 256 * e

cut_refusal : (bytes : List ℕ) (n d : ℕ) (rest : List ℕ) → Cut bytes n d rest → file_refusal bytes ≡ sizes_refusal n d rest
cut_refusal bytes n d rest k = ap file_refusal k.whole ∙ ap (λ m. sizes_refusal m (k.c + 256 * k.e) rest) (sym k.n_is) ∙ ap (λ m. sizes_refusal n m rest) (sym k.d_is)

-- the words of the sizes in front cut a file, and of bytes they are what it is cut into
words_cut : (bytes : List ℕ) (n d : ℕ) (rest : List ℕ) → bytes ≡ words (n ∷ (d ∷ [])) ++ rest → Cut bytes n d rest
words_cut bytes n d rest k = record { a = n % 256; b = n / 256; c = d % 256; e = d / 256; whole = k; n_is = omega arith; d_is = omega arith }

cut_words : (bytes : List ℕ) (n d : ℕ) (rest : List ℕ) → Bytes bytes → Cut bytes n d rest → bytes ≡ words (n ∷ (d ∷ [])) ++ rest
cut_words bytes n d rest h k =
    let P : List ℕ → Type 0 = λ bs. Bytes bs in
    let g : Bytes (k.a ∷ (k.b ∷ (k.c ∷ (k.e ∷ rest)))) = subst P k.whole h in
    let la : k.a < 256 = g 0 in
    let lb : k.b < 256 = g 1 in
    let lc : k.c < 256 = g 2 in
    let le : k.e < 256 = g 3 in
    let x : k.a ≡ n % 256 = omega arith in
    let y : k.b ≡ n / 256 = omega arith in
    let z : k.c ≡ d % 256 = omega arith in
    let w : k.e ≡ d / 256 = omega arith in
    let u = k.whole in
    cc

-- what the check behind the sizes answers, as an answer for the whole file

pub cut_answers : (bytes : List ℕ) (n d : ℕ) (rest : List ℕ) (r : Result BookFile FileRefusal) → Cut bytes n d rest → Splits n d rest r → Answers (file_refusal bytes) r
cut_answers bytes n d rest (Ok f) k j = cut_refusal bytes n d rest k ∙ j.0
cut_answers bytes n d rest (Err e) k j = cut_refusal bytes n d rest k ∙ j

pub words_answers : (bytes : List ℕ) (n d : ℕ) (rest : List ℕ) (r : Result BookFile FileRefusal) → bytes ≡ words (n ∷ (d ∷ [])) ++ rest → Splits n d rest r → Answers (file_refusal bytes) r
words_answers bytes n d rest r k j = cut_answers bytes n d rest r (words_cut bytes n d rest k) j

pub refused_accepts : (bytes : List ℕ) (e : FileRefusal) → file_refusal bytes ≡ Some e → (n : ℕ) (ds : List Derivation) → Valid n ds → bytes ≡ file n ds → ⊥
refused_accepts bytes e q n ds v w = let accepted = file_accepted n ds v in cc

pub words_accepts : (bytes : List ℕ) (n d : ℕ) (rest : List ℕ) (r : Result BookFile FileRefusal) → Bytes bytes → bytes ≡ words (n ∷ (d ∷ [])) ++ rest → Splits n d rest r → Accepts bytes r
words_accepts bytes n d rest (Err e) h k j = refused_accepts bytes e (words_answers bytes n d rest (Err e) k j)
words_accepts bytes n d rest (Ok f) h k j =
    let P : List ℕ → Type 0 = λ bs. Bytes bs in
    let g : Bytes (words (n ∷ (d ∷ [])) ++ rest) = subst P k h in
    let ds : List Derivation = derivations (take (2 * d) rest) (drop (2 * d) rest) in
    let o : Holds n d rest ds = sizes_hold n d rest (λ i. g (suc (suc (suc (suc i))))) j.0 in
    let s : shown f ≡ ds = ap (λ us. derivations us f.seconds.now) j.2 ∙ ap (derivations (take (2 * d) rest)) j.3 in
    let w : bytes ≡ file n ds = k ∙ ap (λ m. words (n ∷ (m ∷ [])) ++ rest) (sym o.many) ∙ ap (λ xs. words (n ∷ (length ds ∷ [])) ++ xs) o.whole in
    let Q : ℕ → Type 0 = λ m. Valid m ds × (bytes ≡ file m ds) in
    let R : List Derivation → Type 0 = λ es. Valid (count_shown f) es × (bytes ≡ file (count_shown f) es) in
    subst R (sym s) (subst Q (sym j.1) (o.valid, w))

pub cut_accepts : (bytes : List ℕ) (n d : ℕ) (rest : List ℕ) (r : Result BookFile FileRefusal) → Bytes bytes → Cut bytes n d rest → Splits n d rest r → Accepts bytes r
cut_accepts bytes n d rest r h k j = words_accepts bytes n d rest r h (cut_words bytes n d rest h k) j

-- a file is that of one book alone
pub file_same : (n m : ℕ) (ds es : List Derivation) → file n ds ≡ file m es → (n ≡ m) × (ds ≡ es)
file_same n m ds es e =
    let a : n % 256 ≡ m % 256 = cc in
    let b : n / 256 ≡ m / 256 = cc in
    let c : length ds % 256 ≡ length es % 256 = cc in
    let d : length ds / 256 ≡ length es / 256 = cc in
    let r : first_models ds ++ second_models ds ≡ first_models es ++ second_models es = cc in
    let l : length ds ≡ length es = omega arith in (
      omega arith,
      sym (split_columns ds)
          ∙ ap (λ k. derivations (take (2 * k) (first_models ds ++ second_models ds)) (drop (2 * k) (first_models ds ++ second_models ds))) l
          ∙ ap (λ xs. derivations (take (2 * length es) xs) (drop (2 * length es) xs)) r
          ∙ split_columns es,
    )

-- and its bytes say that book
pub count_in_file : (n : ℕ) (ds : List Derivation) → count_in (file n ds) ≡ n
count_in_file n ds = let e : n % 256 + 256 * (n / 256) ≡ n = omega arith in e

pub derivations_in_file : (n : ℕ) (ds : List Derivation) → derivations_in (file n ds) ≡ ds
derivations_in_file n ds =
    let e : length ds % 256 + 256 * (length ds / 256) ≡ length ds = omega arith in
    ap (λ (k : ℕ). derivations (take (2 * k) (first_models ds ++ second_models ds)) (drop (2 * k) (first_models ds ++ second_models ds))) e ∙ split_columns ds

pub accepts_reads : (bytes : List ℕ) (r : Result BookFile FileRefusal) → Accepts bytes r → Reads bytes r
accepts_reads bytes (Err e) h = tt
accepts_reads bytes (Ok f) h = λ n ds e. file_same (count_shown f) n (shown f) ds (sym h.1 ∙ e)

pub length_file : (n : ℕ) (ds : List Derivation) → length (file n ds) ≡ 4 + 4 * length ds
length_file n ds = omega (arith, length-append (first_models ds) (second_models ds), length_firsts ds, length_seconds ds)
