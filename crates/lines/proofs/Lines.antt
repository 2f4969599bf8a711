-- The lines of a file from its first line on: as the reader meets them, and put together again.
use Rattle.std.proofs.Common.{◌≡◌, ℕ, suc, ◌+◌, ◌<◌, ◌≤◌, Bool, true, false, cond, not, eqb, List, [], ◌∷◌, ◌++◌, length, get_or, take, drop, sym, refl, ap, ◌∙◌, append_assoc, add-one, arith}
use Rattle.std.specs.List.{flat_map, AllByRecursion, position_or_len, before_first}
use Rattle.std.proofs.lemmas.List.{length-drop, drop_more, nil_from_length}
use Rattle.std.proofs.lemmas.Bool.{eqb-true, eqb-false, ne_eqb, false≢true}
use Rattle.lines.specs.Lines.{onto, lines_of, between, last_end, Clear, ended}

-- the byte that a line ends with
abbrev pub is_end : ℕ → Bool
is_end b = eqb b 10

last_by : (t : Bool) (b : ℕ) → cond t ([] ∷ []) ((b ∷ []) ∷ []) ≡ take (cond (not t) 1 0) (b ∷ []) ∷ lines_of (drop (suc (cond (not t) 1 0)) (b ∷ []))
unfolding lines_of
last_by true b = refl
last_by false b = refl

more_by : (t : Bool) (b e : ℕ) (bs : List ℕ) → lines_of bs ≡ take e bs ∷ lines_of (drop (suc e) bs)
    → cond t ([] ∷ lines_of bs) (onto b (lines_of bs))
    ≡ take (cond (not t) (1 + e) 0) (b ∷ bs) ∷ lines_of (drop (suc (cond (not t) (1 + e) 0)) (b ∷ bs))
more_by true b e bs h = refl
more_by false b e bs h =
    let more : suc e ≡ 1 + e = omega arith in
    ap (onto b) h ∙ ap (λ n. take n (b ∷ bs) ∷ lines_of (drop n bs)) more

split_first : (b : ℕ) (bs : List ℕ) → lines_of (b ∷ bs) ≡ before_first is_end (b ∷ bs) ∷ lines_of (drop (suc (position_or_len is_end (b ∷ bs))) (b ∷ bs))
unfolding lines_of
split_first b [] = last_by (eqb b 10) b
split_first b (c ∷ cs) = more_by (eqb b 10) b (position_or_len is_end (c ∷ cs)) (c ∷ cs) (split_first c cs)

-- the first line stands before the first end, and the others behind it
pub first_cut : (bytes : List ℕ) (end : ℕ) → position_or_len is_end bytes ≡ end → 0 < length bytes → lines_of bytes ≡ take end bytes ∷ lines_of (drop (end + 1) bytes)
first_cut [] end e h = absurd (omega arith)
first_cut (b ∷ bs) end e h = rw add-one (split_first b bs ∙ ap (λ n. take n (b ∷ bs) ∷ lines_of (drop (suc n) (b ∷ bs))) e)

pub rest_shorter : (bytes behind rest : List ℕ) (k : ℕ) → behind ≡ drop k bytes → rest ≡ drop 1 behind → 0 < length bytes → length rest < length bytes
rest_shorter bytes behind rest k b r h = omega (arith, ap length b, ap length r, length-drop k bytes, length-drop 1 behind)

pub no_lines : (bytes : List ℕ) → true ≡ eqb (length bytes) 0 → lines_of bytes ≡ []
unfolding lines_of
no_lines bytes e = ap lines_of (nil_from_length bytes (eqb-true (length bytes) 0 (sym e)))

pub some_bytes : (bytes : List ℕ) → false ≡ eqb (length bytes) 0 → 0 < length bytes
some_bytes [] e = absurd (false≢true e)
some_bytes (b ∷ bs) e = omega arith

length_onto : (b : ℕ) (ls : List (List ℕ)) → length (onto b ls) ≤ suc (length ls)
length_onto b [] = omega arith
length_onto b (l ∷ ls) = omega arith

few_by : (t : Bool) (b n : ℕ) (ls : List (List ℕ)) → length ls ≤ n → length (cond t ([] ∷ ls) (onto b ls)) ≤ suc n
few_by true b n ls h = omega arith
few_by false b n ls h = omega (arith, length_onto b ls)

-- at most as many lines as bytes
pub few_lines : (bytes : List ℕ) → length (lines_of bytes) ≤ length bytes
unfolding lines_of
few_lines [] = omega arith
few_lines (b ∷ bs) = few_by (eqb b 10) b (length bs) (lines_of bs) (few_lines bs)

-- the first of what is left behind k
pub record Ahead (ls : List (List ℕ)) (k : ℕ) (l : List ℕ) (more : List (List ℕ)) : Type 0 where
  pub below : k < length ls
  pub here : l ≡ get_or ls k []
  pub after : more ≡ drop (k + 1) ls

pub ahead : (ls : List (List ℕ)) (k : ℕ) (l : List ℕ) (more : List (List ℕ)) → l ∷ more ≡ drop k ls → Ahead ls k l more
ahead ls k l more e =
    let h : k < length ls = omega (arith, ap length e, length-drop k ls) in
    let d : l ∷ more ≡ get_or ls k [] ∷ drop (k + 1) ls = e ∙ drop_more ls k [] h in
    record { below = h; here = cc; after = cc }

pub none_ahead : (ls : List (List ℕ)) (k : ℕ) → [] ≡ drop k ls → k ≤ length ls → k ≡ length ls
none_ahead ls k e h = omega (arith, ap length e, length-drop k ls)

between_onto : (b : ℕ) (ls : List (List ℕ)) → between (onto b ls) ≡ b ∷ between ls
between_onto b [] = refl
between_onto b (l ∷ []) = refl
between_onto b (l ∷ (m ∷ ms)) = refl

between_gap : (ls : List (List ℕ)) → 0 < length ls → between ([] ∷ ls) ≡ 10 ∷ between ls
between_gap [] h = absurd (omega arith)
between_gap (l ∷ ls) h = refl

lone_by : (t : Bool) (b : ℕ) → eqb b 10 ≡ t → between (cond t ([] ∷ []) ((b ∷ []) ∷ [])) ++ cond t (10 ∷ []) [] ≡ b ∷ []
lone_by true b e = ap (λ x. x ∷ []) (sym (eqb-true b 10 e))
lone_by false b e = refl

whole_by : (t : Bool) (b : ℕ) (bs end : List ℕ) (ls : List (List ℕ)) → eqb b 10 ≡ t → 0 < length ls → between ls ++ end ≡ bs
    → between (cond t ([] ∷ ls) (onto b ls)) ++ end ≡ b ∷ bs
whole_by true b bs end ls e h i =
    ap (λ xs. xs ++ end) (between_gap ls h) ∙ ap (λ xs. 10 ∷ xs) i ∙ ap (λ x. x ∷ bs) (sym (eqb-true b 10 e))
whole_by false b bs end ls e h i = ap (λ xs. xs ++ end) (between_onto b ls) ∙ ap (λ xs. b ∷ xs) i

-- put together they are the file, less the 0A that it ends with
pub lines_whole : (file : List ℕ) → between (lines_of file) ++ last_end file ≡ file
unfolding lines_of
lines_whole [] = refl
lines_whole (b ∷ []) = lone_by (eqb b 10) b refl
lines_whole (b ∷ (c ∷ cs)) =
    let n : 0 < length (lines_of (c ∷ cs)) = omega (arith, ap length (split_first c cs)) in
    whole_by (eqb b 10) b (c ∷ cs) (last_end (c ∷ cs)) (lines_of (c ∷ cs)) refl n (lines_whole (c ∷ cs))

clear_by : (t : Bool) (b : ℕ) (ls : List (List ℕ)) → eqb b 10 ≡ t → AllByRecursion Clear ls → AllByRecursion Clear (cond t ([] ∷ ls) (onto b ls))
clear_by true b ls e h = (tt, h)
clear_by false b [] e h = ((eqb-false b 10 e, tt), tt)
clear_by false b (l ∷ ls) e h = ((eqb-false b 10 e, h.0), h.1)

-- a line has no 0A
pub lines_clear : (file : List ℕ) → AllByRecursion Clear (lines_of file)
unfolding lines_of
lines_clear [] = tt
lines_clear (b ∷ bs) = clear_by (eqb b 10) b (lines_of bs) refl (lines_clear bs)

one_ended : (l more : List ℕ) → Clear l → lines_of (l ++ (10 ∷ more)) ≡ l ∷ lines_of more
unfolding lines_of
one_ended [] more h = refl
one_ended (b ∷ bs) more h =
    let rest = lines_of (bs ++ (10 ∷ more)) in
    ap (λ t. cond t ([] ∷ rest) (onto b rest)) (ne_eqb b 10 h.0) ∙ ap (onto b) (one_ended bs more h.1)

-- lines without 0A, each with its end, are the lines of what they make
pub lines_ended : (ls : List (List ℕ)) → AllByRecursion Clear ls → lines_of (flat_map ended ls) ≡ ls
unfolding lines_of
lines_ended [] h = refl
lines_ended (l ∷ ls) h =
    ap lines_of (append_assoc l (10 ∷ []) (flat_map ended ls)) ∙ one_ended l (flat_map ended ls) h.0 ∙ ap (λ xs. l ∷ xs) (lines_ended ls h.1)
