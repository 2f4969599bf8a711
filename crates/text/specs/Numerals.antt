-- Decimal numerals of numbers up to 65,535: what reading and writing one comes to, and the same computed.
use Rattle.std.specs.Prelude.{◌≡◌, ℕ, ◌+◌, ◌-◌, ◌<◌, ◌≤◌, Bool, false, cond, not, ◌&&◌, ◌||◌, List, [], ◌∷◌, ◌++◌, length, take, drop, Some, None, decimal, Option, ◌==◌, nat_le, nat_lt, slice_index}
use Rattle.std.specs.List.{prefix_len}
use Rattle.std.specs.Char.{is_ascii_digit}
use Rattle.std.specs.Str.Parse.{digits_value}
use Rattle.text.specs.Placing.{placed}

-- whether bytes begin with a digit
abbrev pub digit_first : List ℕ → Bool
digit_first [] = false
digit_first (c ∷ cs) = is_ascii_digit c

-- the bytes are the numeral of v, and then rest, which begins with no digit
pub record Begins (bytes : List ℕ) (v : ℕ) (rest : List ℕ) : Type 0 where
  pub small : v < 65536
  pub whole : bytes ≡ decimal v ++ rest
  pub ends : digit_first rest ≡ false

-- bytes that begin with no numeral
abbrev pub NoNumeral : List ℕ → Type 0
NoNumeral bytes = (v : ℕ) (rest : List ℕ) → Begins bytes v rest → ⊥

-- what reading answers: the number and where its numeral ends, or nothing, if the bytes begin with no numeral
abbrev pub Read : List ℕ → Option (ℕ × ℕ) → Type 0
Read bytes None = NoNumeral bytes
Read bytes (Some p) = Begins bytes p.0 (drop p.1 bytes) × (p.1 ≡ length (decimal p.0)) × (p.1 ≤ length bytes)

-- what writing answers: the place behind the text; or nothing, if there is no room, and then nothing is written
abbrev pub Wrote : List ℕ → ℕ → List ℕ → Option ℕ → List ℕ → Type 0
Wrote buffer at text (Some end) after = (end ≡ at + length text) × (end ≤ length buffer) × (after ≡ placed buffer at text)
Wrote buffer at text None after = (length buffer < at + length text) × (after ≡ buffer)

-- what was written reads back, unless a digit stands behind it
abbrev pub Back : List ℕ → ℕ → ℕ → Option ℕ → List ℕ → Type 0
Back buffer at n (Some end) after =
    digit_first (drop end buffer) ≡ false → (r : Option (ℕ × ℕ)) → Read (drop at after) r → r ≡ Some (n, end - at)
Back buffer at n None after = Unit {0}

-- how many digits the bytes begin with
abbrev pub lead : List ℕ → ℕ
lead bytes = prefix_len is_ascii_digit bytes

-- one to five digits, no zero before another digit, at most 65,535
unfoldable pub plain : List ℕ → Bool
plain ds = (nat_lt 0 (length ds) && nat_le (length ds) 5) && ((nat_lt (length ds) 2 || not (slice_index ds 0 == 48)) && nat_le (digits_value 10 ds) 65535)

-- the number whose numeral the bytes begin with, and what stands behind it
abbrev pub first_number : List ℕ → Option (ℕ × List ℕ)
first_number bytes = cond (plain (take (lead bytes) bytes)) (Some (digits_value 10 (take (lead bytes) bytes), drop (lead bytes) bytes)) None
