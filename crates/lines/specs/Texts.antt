-- The one text of a form, and what parsing a line comes to.
use Rattle.std.specs.Prelude.{◌≡◌, ℕ, ◌<◌, false, List, [], ◌∷◌, ◌++◌, Some, None, decimal, Option, ◌≢◌}
use Rattle.std.specs.List.{flat_map}
use Rattle.text.specs.Numerals.{digit_first}
use Rattle.lines.specs.declared.form.Form.{Form}
use Rattle.lines.specs.Forms.{letter_of, numbers_of, Small}

-- a space and a numeral
abbrev pub spaced : ℕ → List ℕ
spaced n = 32 ∷ decimal n

-- a space and a numeral for each number
abbrev pub listed : List ℕ → List ℕ
listed ns = flat_map spaced ns

-- the letter, and then each number
abbrev pub text : Form → List ℕ
text f = letter_of f ∷ listed (numbers_of f)

-- what parsing answers: the form whose text the line is; or nothing, if it is the text of none
abbrev pub Parsed : List ℕ → Option Form → Type 0
Parsed line (Some f) = Small (numbers_of f) × (line ≡ text f)
Parsed line None = (f : Form) → Small (numbers_of f) → line ≢ text f

-- a space, the numeral of v, and then rest, which begins with no digit
pub record Spaced (bytes : List ℕ) (v : ℕ) (rest : List ℕ) : Type 0 where
  pub small : v < 65536
  pub whole : bytes ≡ spaced v ++ rest
  pub ends : digit_first rest ≡ false

-- bytes that begin with no spaced number
abbrev pub NoNext : List ℕ → Type 0
NoNext bytes = (v : ℕ) (rest : List ℕ) → Spaced bytes v rest → ⊥

-- bytes that are not one spaced number
abbrev pub NoOne : List ℕ → Type 0
NoOne bytes = (v : ℕ) → v < 65536 → bytes ≢ listed (v ∷ [])

-- bytes that are not two spaced numbers
abbrev pub NoTwo : List ℕ → Type 0
NoTwo bytes = (u v : ℕ) → u < 65536 → v < 65536 → bytes ≢ listed (u ∷ (v ∷ []))
