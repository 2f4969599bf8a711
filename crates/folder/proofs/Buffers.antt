-- The front of a buffer that a text was placed in.
use Rattle.std.proofs.Common.{◌≡◌, ℕ, ◌+◌, ◌≤◌, List, ◌++◌, length, take, drop, sym, ap, ◌∙◌, append_assoc}
use Rattle.std.proofs.lemmas.List.{take-take, take_at}
use Rattle.text.specs.Placing.{placed}

pub front_placed : (text out after tail : List ℕ) (len most : ℕ) → len ≡ length text → len ≤ most → after ≡ placed out 0 text → take len (take most (after ++ tail)) ≡ text
front_placed text out after tail len most e h p =
    take-take len most (after ++ tail) h
    ∙ ap (λ (xs : List ℕ). take len (xs ++ tail)) p
    ∙ ap (take len) (append_assoc text (drop (0 + length text) out) tail)
    ∙ take_at text (drop (0 + length text) out ++ tail) len (sym e)
