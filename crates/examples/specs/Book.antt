-- The book of eight models of lineage as the list of its derivations. Assumes nothing.
use Rattle.std.specs.Prelude.{ℕ, List, [], ◌∷◌}

-- The derivations of the book.
abbrev pub derived : List (ℕ × ℕ)
derived = (0, 1) ∷ (0, 2) ∷ (1, 3) ∷ (2, 3) ∷ (2, 5) ∷ (3, 4) ∷ (4, 7) ∷ (5, 6) ∷ (6, 5) ∷ (6, 7) ∷ []
