-- The front of digits that bytes begin with, and the one numeral that it can be.
use Rattle.std.proofs.Common.{◌≡◌, ℕ, zero, suc, ◌+◌, ◌-◌, ◌*◌, ◌<◌, ◌≤◌, true, false, List, [], ◌∷◌, ◌++◌, length, get_or, take, drop, decimal, sym, refl, ap, ◌∙◌, subst, ⊎_elim, arith, rules}
use Rattle.std.specs.Char.{is_ascii_digit, digit_value}
use Rattle.std.specs.Str.Parse.{digits_value}
use Rattle.std.specs.Str.{all_ascii_digits}
use Rattle.std.proofs.lemmas.List.{take-append-drop, length-take-le}
use Rattle.std.proofs.lemmas.Bool.{and_parts, and_from, false≢true, le-ltb, lt-ltb, cases_lt}
use Rattle.std.proofs.lemmas.Str.Parse.{IsNumeralModel, numerals_by_value, tells_all_ascii_digits, digits_value-take-le}
use Rattle.std.proofs.lemmas.Int.Digits.{digits_value_more}
use Rattle.std.proofs.lemmas.Fmt.{digits_decimal, digits_value-decimal, decimal-digits_value, decimal_nonempty, length-decimal-le, first_decimal, decimal_digit}
use Rattle.text.specs.Numerals.{digit_first, Begins}

pub own : IsNumeralModel (λ ds. all_ascii_digits ds ≡ true) (digits_value 10)
own = numerals_by_value _ tells_all_ascii_digits

pub digit_from_range : (c : ℕ) → 48 ≤ c → c ≤ 57 → is_ascii_digit c ≡ true
digit_from_range c h k = grind (arith, rules)

pub range_from_digit : (c : ℕ) → is_ascii_digit c ≡ true → (48 ≤ c) × (c ≤ 57)
range_from_digit c h = search rules

pub digit_value_is : (c : ℕ) → 48 ≤ c → c ≤ 57 → digit_value c ≡ c - 48
digit_value_is c h k = rw (le-ltb c 48 h, lt-ltb c 58 (omega arith)) refl

pub all_push : (xs : List ℕ) (c : ℕ) → all_ascii_digits xs ≡ true → is_ascii_digit c ≡ true → all_ascii_digits (xs ++ (c ∷ [])) ≡ true
all_push [] c h k = and_from _ _ k refl
all_push (x ∷ xs) c h k =
    let p = and_parts (is_ascii_digit x) (all_ascii_digits xs) h in
    and_from (is_ascii_digit x) (all_ascii_digits (xs ++ (c ∷ []))) p.0 (all_push xs c p.1 k)

pub all_at : (xs : List ℕ) (i : ℕ) → all_ascii_digits xs ≡ true → i < length xs → is_ascii_digit (get_or xs i 0) ≡ true
all_at [] i h l = absurd (omega arith)
all_at (x ∷ xs) zero h l = (and_parts (is_ascii_digit x) (all_ascii_digits xs) h).0
all_at (x ∷ xs) (suc i) h l = all_at xs i (and_parts (is_ascii_digit x) (all_ascii_digits xs) h).1 (omega arith)

-- a front of digits with no digit behind it is one alone
pub front_same : (xs ys zs ws : List ℕ) → all_ascii_digits xs ≡ true → all_ascii_digits ys ≡ true → digit_first zs ≡ false → digit_first ws ≡ false
    → xs ++ zs ≡ ys ++ ws → xs ≡ ys
front_same [] [] zs ws a b p q e = refl
front_same [] (y ∷ ys) zs ws a b p q e =
    absurd (false≢true (sym p ∙ ap digit_first e ∙ (and_parts (is_ascii_digit y) (all_ascii_digits ys) b).0))
front_same (x ∷ xs) [] zs ws a b p q e =
    absurd (false≢true (sym q ∙ ap digit_first (sym e) ∙ (and_parts (is_ascii_digit x) (all_ascii_digits xs) a).0))
front_same (x ∷ xs) (y ∷ ys) zs ws a b p q e =
    let h : x ≡ y = cc in
    let t : xs ++ zs ≡ ys ++ ws = cc in
    let r : xs ≡ ys = front_same xs ys zs ws (and_parts (is_ascii_digit x) (all_ascii_digits xs) a).1 (and_parts (is_ascii_digit y) (all_ascii_digits ys) b).1 p q t in
    cc

-- what the numeral of a number up to 65,535 looks like
pub record Canon (ds : List ℕ) (v : ℕ) : Type 0 where
  pub some : 0 < length ds
  pub few : length ds ≤ 5
  pub lead : get_or ds 0 0 ≡ 48 → length ds ≡ 1
  pub val : digits_value 10 ds ≡ v

pub canon_decimal : (v : ℕ) → v < 65536 → Canon (decimal v) v
canon_decimal v h = record {
  some = decimal_nonempty v (omega arith);
  few = length-decimal-le 5 v (omega arith) (omega arith) (omega arith);
  lead = λ e. ⊎_elim
      (λ z. ap length (decimal_digit v (omega arith)))
      (λ p. absurd (omega (arith, first_decimal v p (omega arith), e)))
      (cases_lt v 1);
  val = digits_value-decimal own v (omega arith);
}

-- the longest front of digits
pub record Front (bytes : List ℕ) (k : ℕ) : Type 0 where
  pub within : k ≤ length bytes
  pub front : all_ascii_digits (take k bytes) ≡ true
  pub ends : digit_first (drop k bytes) ≡ false

pub front_canon : (bytes : List ℕ) (k : ℕ) → Front bytes k → (v : ℕ) (rest : List ℕ) → Begins bytes v rest → Canon (take k bytes) v
front_canon bytes k f v rest b =
    let P : List ℕ → Type 0 = λ ds. Canon ds v in
    let e : decimal v ≡ take k bytes = front_same (decimal v) (take k bytes) rest (drop k bytes)
    (digits_decimal own v (omega (arith, b.small))) f.front b.ends f.ends
    (sym b.whole ∙ sym (take-append-drop k bytes)) in
    subst P e (canon_decimal v b.small)

pub front_length : (bytes : List ℕ) (k : ℕ) → Front bytes k → length (take k bytes) ≡ k
front_length bytes k f = length-take-le k bytes f.within

-- and the other way
pub front_reads : (bytes : List ℕ) (k n : ℕ) → Front bytes k → 0 < k → (get_or (take k bytes) 0 0 ≡ 48 → k ≡ 1) → n ≡ digits_value 10 (take k bytes) → n < 65536
    → Begins bytes n (drop k bytes) × (k ≡ length (decimal n)) × (k ≤ length bytes)
front_reads bytes k n f some lead e small =
    let l : length (take k bytes) ≡ k = front_length bytes k f in
    let d : decimal (digits_value 10 (take k bytes)) ≡ take k bytes
    = decimal-digits_value own (take k bytes) f.front (omega arith) (λ z. l ∙ lead z) (omega (arith, e, small)) in
    let dn : decimal n ≡ take k bytes = ap decimal e ∙ d in (
      record { small = small; whole = sym (take-append-drop k bytes) ∙ ap (λ xs. xs ++ drop k bytes) (sym dn); ends = f.ends },
      sym l ∙ ap length (sym dn),
      f.within,
    )

-- one number alone
pub begins_same : (bytes : List ℕ) (v w : ℕ) (rest more : List ℕ) → Begins bytes v rest → Begins bytes w more → v ≡ w
begins_same bytes v w rest more a b =
    let e : decimal v ≡ decimal w = front_same (decimal v) (decimal w) rest more
    (digits_decimal own v (omega (arith, a.small))) (digits_decimal own w (omega (arith, b.small))) a.ends b.ends
    (sym a.whole ∙ b.whole) in
    sym (digits_value-decimal own v (omega (arith, a.small))) ∙ ap (digits_value 10) e ∙ digits_value-decimal own w (omega (arith, b.small))

-- one digit more: the value that it makes, which is no more than that of all digits
pub value_step : (xs : List ℕ) (i : ℕ) → all_ascii_digits xs ≡ true → i < length xs
    → (48 ≤ get_or xs i 0) × (digits_value 10 (take (i + 1) xs) ≡ digits_value 10 (take i xs) * 10 + (get_or xs i 0 - 48)) × (digits_value 10 (take (i + 1) xs) ≤ digits_value 10 xs)
value_step xs i h l =
    let r = range_from_digit (get_or xs i 0) (all_at xs i h l) in (
      r.0,
      digits_value_more 10 xs i l ∙ ap (λ m. digits_value 10 (take i xs) * 10 + m) (digit_value_is (get_or xs i 0) r.0 r.1),
      digits_value-take-le 10 xs (i + 1) (omega arith),
    )
