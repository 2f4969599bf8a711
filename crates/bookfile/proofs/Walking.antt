-- The walk over the two arrays, two bytes of each at a time.
use Rattle.std.proofs.Common.{◌≡◌, ℕ, zero, suc, ◌+◌, ◌-◌, ◌*◌, ◌/◌, ◌%◌, ◌<◌, ◌≤◌, min, List, [], ◌∷◌, ◌++◌, map, length, get_or, take, drop, w16, Some, None, Option, MatchOption, sym, refl, ap, ap₂, ◌∙◌, arith}
use Rattle.std.proofs.lemmas.List.{take_all, drop_more, take_rest, length-drop, get_or-drop}
use Rattle.std.proofs.lemmas.Option.{none-some, slice_get_past, slice_get_read, slice_get-map, slice_get-get_or}
use Rattle.std.specs.List.{slice_get}
use Rattle.std.specs.Int.{from_le_bytes}
use Rattle.std.specs.Option.{option_map}
use Rattle.std.specs.Simd.{first_chunks}
use Rattle.book.specs.declared.derivation.Derivation.{Derivation}
use Rattle.book.specs.Refusals.{first}
use Rattle.bookfile.specs.declared.refusal.FileRefusal.{FileRefusal}
use Rattle.bookfile.specs.Table.{place_refusal, places_refusal}
use Rattle.bookfile.proofs.Arrays.{length_derivations}
use Rattle.bookfile.specs.Files.{words, numbers, paired, derivations}

two_front : (xs : List ℕ) → 2 ≤ length xs → xs ≡ get_or xs 0 0 ∷ (get_or xs 1 0 ∷ take (length xs - 2) (drop 2 xs))
two_front xs h =
    drop_more xs 0 0 (omega arith)
    ∙ ap (λ ys. get_or xs 0 0 ∷ ys) (drop_more xs 1 0 (omega arith) ∙ ap (λ ys. get_or xs 1 0 ∷ ys) (sym (take_rest xs 2)))

pub four_front : (xs : List ℕ) → 4 ≤ length xs
    → xs ≡ get_or xs 0 0 ∷ (get_or xs 1 0 ∷ (get_or xs 2 0 ∷ (get_or xs 3 0 ∷ take (length xs - 4) (drop 4 xs))))
four_front xs h =
    drop_more xs 0 0 (omega arith)
    ∙ ap (λ ys. get_or xs 0 0 ∷ ys) (drop_more xs 1 0 (omega arith)
    ∙ ap (λ ys. get_or xs 1 0 ∷ ys) (drop_more xs 2 0 (omega arith)
    ∙ ap (λ ys. get_or xs 2 0 ∷ ys) (drop_more xs 3 0 (omega arith) ∙ ap (λ ys. get_or xs 3 0 ∷ ys) (sym (take_rest xs 4)))))

-- the number of the two bytes in front
pub word_front : (bytes word rest : List ℕ) (n : ℕ) → ((i : ℕ) → get_or bytes i 0 < 256) → 2 ≤ length bytes
    → word ≡ take 2 bytes → rest ≡ drop 2 bytes → n ≡ from_le_bytes w16 word → bytes ≡ words (n ∷ []) ++ rest
word_front [] word rest n h l e f g = absurd (omega arith)
word_front (a ∷ []) word rest n h l e f g = absurd (omega arith)
word_front (a ∷ (b ∷ bs)) word rest n h l e f g =
    let la : a < 256 = h 0 in
    let lb : b < 256 = h 1 in
    let m : n ≡ a + b * 256 = g ∙ ap (from_le_bytes w16) e in
    let x : a ≡ n % 256 = omega arith in
    let y : b ≡ n / 256 = omega arith in
    cc

-- the two numbers of the four bytes in front
pub sizes_front : (bytes : List ℕ) (n d : ℕ) → ((i : ℕ) → get_or bytes i 0 < 256) → 4 ≤ length bytes
    → n ≡ get_or bytes 0 0 + get_or bytes 1 0 * 256 → d ≡ get_or bytes 2 0 + get_or bytes 3 0 * 256
    → bytes ≡ words (n ∷ (d ∷ [])) ++ take (length bytes - 4) (drop 4 bytes)
sizes_front [] n d h l e f = absurd (omega arith)
sizes_front (a ∷ []) n d h l e f = absurd (omega arith)
sizes_front (a ∷ (b ∷ [])) n d h l e f = absurd (omega arith)
sizes_front (a ∷ (b ∷ (u ∷ []))) n d h l e f = absurd (omega arith)
sizes_front (a ∷ (b ∷ (u ∷ (v ∷ rest)))) n d h l e f =
    let la : a < 256 = h 0 in
    let lb : b < 256 = h 1 in
    let lu : u < 256 = h 2 in
    let lv : v < 256 = h 3 in
    let x : a ≡ n % 256 = omega arith in
    let y : b ≡ n / 256 = omega arith in
    let z : u ≡ d % 256 = omega arith in
    let w : v ≡ d / 256 = omega arith in
    let bytes : List ℕ = a ∷ (b ∷ (u ∷ (v ∷ rest))) in
    let k : take (length bytes - 4) rest ≡ rest = take_all (length bytes - 4) rest (omega arith) in
    ap (λ m. m ∷ (b ∷ (u ∷ (v ∷ rest)))) x
    ∙ ap (λ m. n % 256 ∷ (m ∷ (u ∷ (v ∷ rest)))) y
    ∙ ap (λ m. n % 256 ∷ (n / 256 ∷ (m ∷ (v ∷ rest)))) z
    ∙ ap (λ m. n % 256 ∷ (n / 256 ∷ (d % 256 ∷ (m ∷ rest)))) w
    ∙ ap (λ xs. words (n ∷ (d ∷ [])) ++ xs) (sym k)

numbers_short : (xs : List ℕ) → length xs < 2 → numbers xs ≡ []
numbers_short [] h = refl
numbers_short (a ∷ []) h = refl
numbers_short (a ∷ (b ∷ bs)) h = absurd (omega arith)

paired_nil : (us : List ℕ) → paired us [] ≡ []
paired_nil [] = refl
paired_nil (u ∷ us) = refl

pub seconds_end : (xs ys : List ℕ) → length ys < 2 → derivations xs ys ≡ []
seconds_end xs ys h = ap (paired (numbers xs)) (numbers_short ys h) ∙ paired_nil (numbers xs)

pub firsts_end : (xs ys : List ℕ) → length xs < 2 → derivations xs ys ≡ []
firsts_end xs ys h = ap (λ us. paired us (numbers ys)) (numbers_short xs h)

-- past the first places of both arrays
pub walk_drop : (i : ℕ) (xs ys : List ℕ) → derivations (drop (i * 2) xs) (drop (i * 2) ys) ≡ drop i (derivations xs ys)
walk_drop zero xs ys = refl
walk_drop (suc i) [] ys = firsts_end (drop (suc i * 2) []) (drop (suc i * 2) ys) (omega (arith, length-drop {A = ℕ} (suc i * 2) []))
walk_drop (suc i) (a ∷ []) ys =
    firsts_end (drop (suc i * 2) (a ∷ [])) (drop (suc i * 2) ys) (omega (arith, length-drop (suc i * 2) (a ∷ [])))
walk_drop (suc i) (a ∷ (b ∷ xs)) [] =
    seconds_end (drop (suc i * 2) (a ∷ (b ∷ xs))) (drop (suc i * 2) []) (omega (arith, length-drop {A = ℕ} (suc i * 2) []))
walk_drop (suc i) (a ∷ (b ∷ xs)) (c ∷ []) =
    seconds_end (drop (suc i * 2) (a ∷ (b ∷ xs))) (drop (suc i * 2) (c ∷ [])) (omega (arith, length-drop (suc i * 2) (c ∷ [])))
walk_drop (suc i) (a ∷ (b ∷ xs)) (c ∷ (d ∷ ys)) =
    let k : suc i * 2 ≡ suc (suc (i * 2)) = omega arith in
    ap (λ n. derivations (drop n (a ∷ (b ∷ xs))) (drop n (c ∷ (d ∷ ys)))) k ∙ walk_drop i xs ys

-- the words of an array are its numbers
chunk_numbers : (k : ℕ) (xs : List ℕ) → length xs / 2 ≡ k → map (from_le_bytes w16) (first_chunks 2 k xs) ≡ numbers xs
chunk_numbers zero [] e = refl
chunk_numbers zero (a ∷ []) e = refl
chunk_numbers zero (a ∷ (b ∷ bs)) e = absurd (omega arith)
chunk_numbers (suc k) [] e = absurd (omega arith)
chunk_numbers (suc k) (a ∷ []) e = absurd (omega arith)
chunk_numbers (suc k) (a ∷ (b ∷ bs)) e =
    let n : a + b * 256 ≡ a + 256 * b = omega arith in
    ap₂ (λ m ms. m ∷ ms) n (chunk_numbers k bs (omega arith))

-- the number of the word at a place
pub word_at : (xs : List ℕ) (chunks : List (List ℕ)) (word : List ℕ) (i n : ℕ) → chunks ≡ first_chunks 2 (length xs / 2) xs → i < length chunks
    → word ≡ get_or chunks i word → n ≡ from_le_bytes w16 word → slice_get (numbers xs) i ≡ Some n
word_at xs chunks word i n c h e f =
    ap (λ ns. slice_get ns i) (sym (ap (map (from_le_bytes w16)) c ∙ chunk_numbers (length xs / 2) xs refl))
    ∙ slice_get-map (from_le_bytes w16) chunks i
    ∙ ap (option_map (from_le_bytes w16)) (slice_get_read chunks (length chunks) i word refl h e)
    ∙ ap Some (sym f)

-- the numbers at a place of both are the derivation there
pub paired_at : (us vs : List ℕ) (i u v : ℕ) → slice_get us i ≡ Some u → slice_get vs i ≡ Some v → slice_get (paired us vs) i ≡ Some (record { from = u; to = v })
paired_at [] vs i u v e f = absurd (none-some u e)
paired_at (x ∷ us) [] i u v e f = absurd (none-some v f)
paired_at (x ∷ us) (y ∷ vs) zero u v e f = cc
paired_at (x ∷ us) (y ∷ vs) (suc i) u v e f = paired_at us vs i u v e f

-- behind the last place there is none
pub none_at : (xs ys : List ℕ) (i : ℕ) → min (length xs) (length ys) ≤ i * 2 + 1 → None ≡ slice_get (derivations xs ys) i
none_at xs ys i h = sym (slice_get_past (derivations xs ys) i (omega (arith, length_derivations xs ys)))

-- what comes next past the first places is what stands at the place behind them
pub next_at : (xs ys us vs : List ℕ) (more : List Derivation) (i : ℕ) (r : Option Derivation) → us ≡ drop (i * 2) xs → vs ≡ drop (i * 2) ys
    → MatchOption r ((derivations us vs ≡ []) × (more ≡ [])) (λ d. derivations us vs ≡ d ∷ more) → r ≡ slice_get (derivations xs ys) i
next_at xs ys us vs more i r u v h = go r h
  where
    ds : List Derivation
    ds = derivations xs ys

    e : derivations us vs ≡ drop i ds
    e = ap₂ derivations u v ∙ walk_drop i xs ys

    go : (r : Option Derivation) → MatchOption r ((derivations us vs ≡ []) × (more ≡ [])) (λ d. derivations us vs ≡ d ∷ more) → r ≡ slice_get ds i
    go None h = let n = ap length (sym e ∙ h.0) in sym (slice_get_past ds i (omega (arith, length-drop i ds)))
    go (Some d) h =
        let n : length (drop i ds) ≡ suc (length more) = ap length (sym e ∙ h) in
        let z : i + 0 ≡ i = omega arith in
        let g : get_or ds i d ≡ d = ap (λ k. get_or ds k d) (sym z) ∙ sym (get_or-drop i ds 0 d) ∙ ap (λ l. get_or l 0 d) (sym e ∙ h) in
        sym (slice_get-get_or ds i d (omega (arith, length-drop i ds)) ∙ ap Some g)

-- one place of the walk
pub walk_step : (n : ℕ) (before : Option Derivation) (xs ys : List ℕ) (d : Derivation) → 2 ≤ length xs → 2 ≤ length ys
    → d.from ≡ get_or xs 0 0 + 256 * get_or xs 1 0 → d.to ≡ get_or ys 0 0 + 256 * get_or ys 1 0
    → places_refusal n before (derivations xs ys)
    ≡ first (place_refusal n before d) (places_refusal n (Some d) (derivations (take (length xs - 2) (drop 2 xs)) (take (length ys - 2) (drop 2 ys))))
walk_step n before xs ys d h k e f =
    let us : List ℕ = take (length xs - 2) (drop 2 xs) in
    let vs : List ℕ = take (length ys - 2) (drop 2 ys) in
    let same : record { from = get_or xs 0 0 + 256 * get_or xs 1 0; to = get_or ys 0 0 + 256 * get_or ys 1 0 } ≡ d = λ i. record { from = sym e i; to = sym f i } in
    ap (λ zs. places_refusal n before (derivations zs ys)) (two_front xs h)
    ∙ ap (λ zs. places_refusal n before (derivations (get_or xs 0 0 ∷ (get_or xs 1 0 ∷ us)) zs)) (two_front ys k)
    ∙ ap (λ (x : Derivation). first (place_refusal n before x) (places_refusal n (Some x) (derivations us vs))) same

pub walk_goes : (n : ℕ) (before : Option Derivation) (xs ys : List ℕ) (d : Derivation) → 2 ≤ length xs → 2 ≤ length ys
    → d.from ≡ get_or xs 0 0 + 256 * get_or xs 1 0 → d.to ≡ get_or ys 0 0 + 256 * get_or ys 1 0 → place_refusal n before d ≡ None
    → places_refusal n before (derivations xs ys) ≡ places_refusal n (Some d) (derivations (take (length xs - 2) (drop 2 xs)) (take (length ys - 2) (drop 2 ys)))
walk_goes n before xs ys d h k e f o =
    walk_step n before xs ys d h k e f ∙ ap (λ (p : Option FileRefusal). first p (places_refusal n (Some d) (derivations (take (length xs - 2) (drop 2 xs)) (take (length ys - 2) (drop 2 ys))))) o

pub walk_stops : (n : ℕ) (before : Option Derivation) (xs ys : List ℕ) (d : Derivation) (r : FileRefusal) → 2 ≤ length xs → 2 ≤ length ys
    → d.from ≡ get_or xs 0 0 + 256 * get_or xs 1 0 → d.to ≡ get_or ys 0 0 + 256 * get_or ys 1 0 → place_refusal n before d ≡ Some r
    → places_refusal n before (derivations xs ys) ≡ Some r
walk_stops n before xs ys d r h k e f o =
    walk_step n before xs ys d h k e f ∙ ap (λ (p : Option FileRefusal). first p (places_refusal n (Some d) (derivations (take (length xs - 2) (drop 2 xs)) (take (length ys - 2) (drop 2 ys))))) o
