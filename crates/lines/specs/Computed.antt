-- The form of a line, computed.
use Rattle.std.specs.Prelude.{ℕ, cond, List, [], ◌∷◌, Some, None, Option, ◌==◌}
use Rattle.std.specs.Option.{option_map, option_and_then}
use Rattle.text.specs.Numerals.{first_number}
use Rattle.lines.specs.declared.form.Form.{Form}
use Rattle.lines.specs.declared.form.Form.TheVariants.{Enter, Strike, Index, Hold, Release, Order}

-- the number behind a space at the front, and what stands behind it
abbrev pub next_of : List ℕ → Option (ℕ × List ℕ)
next_of [] = None
next_of (c ∷ cs) = cond (c == 32) (first_number cs) None

-- a number with nothing behind it
abbrev pub lone : ℕ → List ℕ → Option ℕ
lone v [] = Some v
lone v (c ∷ cs) = None

-- one number behind a space, and nothing else
abbrev pub one_of : List ℕ → Option ℕ
one_of bytes = option_and_then (λ p. lone p.0 p.1) (next_of bytes)

-- two numbers, each behind a space, and nothing else
abbrev pub two_of : List ℕ → Option (ℕ × ℕ)
two_of bytes = option_and_then (λ p. option_map (λ v. (p.0, v)) (one_of p.1)) (next_of bytes)

-- a form of no numbers
abbrev pub bare : Form → List ℕ → Option Form
bare f [] = Some f
bare f (x ∷ xs) = None

-- by the letter
unfoldable pub form_of : List ℕ → Option Form
form_of [] = None
form_of (l ∷ rest) =
    cond (l == 69) (option_map (λ p. Enter (record { from = p.0; to = p.1 })) (two_of rest))
    (cond (l == 83) (option_map (λ p. Strike (record { from = p.0; to = p.1 })) (two_of rest))
    (cond (l == 73) (bare Index rest)
    (cond (l == 72) (option_map (λ p. Hold p.0 p.1) (two_of rest))
    (cond (l == 82) (option_map (λ p. Release p.0 p.1) (two_of rest))
    (cond (l == 67) (option_map (λ m. Order m) (one_of rest)) None)))))
