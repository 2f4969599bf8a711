-- What a file is refused with, if with anything: the first check that fails.
use Rattle.std.specs.Prelude.{ℕ, ◌+◌, ◌*◌, Bool, true, cond, List, [], ◌∷◌, length, take, drop, Some, None, Option, ◌==◌, nat_lt}
use Rattle.std.specs.Option.{option_map}
use Rattle.std.specs.Ordering.{is_lt}
use Rattle.book.specs.declared.derivation.Derivation.{Derivation}
use Rattle.book.specs.Counts.{count_refusal}
use Rattle.book.specs.Order.{by_models}
use Rattle.book.specs.Refusals.{first}
use Rattle.book.specs.Derivations.{improper}
use Rattle.bookfile.specs.declared.refusal.FileRefusal.{FileRefusal}
use Rattle.bookfile.specs.declared.refusal.FileRefusal.TheVariants.{Book, WrongLength, TooMany, NotRising}
use Rattle.bookfile.specs.Files.{derivations}

-- whether a derivation is above the one before it, if one is
abbrev pub follows : Option Derivation → Derivation → Bool
follows None d = true
follows (Some before) d = is_lt (by_models before d)

-- at one place: the derivation itself, then its order
abbrev pub place_refusal : ℕ → Option Derivation → Derivation → Option FileRefusal
place_refusal n before d = first (option_map Book (improper n d)) (cond (follows before d) None (Some NotRising))

-- place by place
abbrev pub places_refusal : ℕ → Option Derivation → List Derivation → Option FileRefusal
places_refusal n before [] = None
places_refusal n before (d ∷ ds) = first (place_refusal n before d) (places_refusal n (Some d) ds)

-- behind the sizes: the count, the number of derivations, the length, the places
abbrev pub sizes_refusal : ℕ → ℕ → List ℕ → Option FileRefusal
sizes_refusal n len rest =
    first (option_map Book (count_refusal n))
    (cond (nat_lt 2048 len) (Some TooMany)
    (cond (length rest == 4 * len) (places_refusal n None (derivations (take (2 * len) rest) (drop (2 * len) rest))) (Some WrongLength)))

abbrev pub file_refusal : List ℕ → Option FileRefusal
file_refusal [] = Some WrongLength
file_refusal (a ∷ []) = Some WrongLength
file_refusal (a ∷ (b ∷ [])) = Some WrongLength
file_refusal (a ∷ (b ∷ (c ∷ []))) = Some WrongLength
file_refusal (a ∷ (b ∷ (c ∷ (d ∷ rest)))) = sizes_refusal (a + 256 * b) (c + 256 * d) rest
