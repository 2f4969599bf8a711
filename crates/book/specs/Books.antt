-- A book by the derivations that stand in it, and what an entry and a strike come to.
use Rattle.std.specs.Prelude.{◌≡◌, ℕ, Bool, true, List, [], ◌∷◌, take, Some, None, Ok, Err, Option, Result}
use Rattle.rising.specs.Lists.{insert, delete}
use Rattle.rising.specs.Outcomes.{adding, removing}
use Rattle.book.specs.declared.count.Count.{Count}
use Rattle.book.specs.declared.derivation.Derivation.{Derivation}
use Rattle.book.specs.declared.kept.Book.{Book}
use Rattle.book.specs.declared.refusal.Refusal.{Refusal}
use Rattle.book.specs.Counts.{models}
use Rattle.book.specs.Order.{by_models}
use Rattle.book.specs.Refusals.{first, unless, add_refusal, remove_refusal}
use Rattle.book.specs.Derivations.{unknown, improper}

-- the derivations that stand, rising
abbrev pub standing : Book → List Derivation
standing b = take b.len b.places

abbrev pub count_of : Book → Count
count_of b = b.count

abbrev pub is_stale : Book → Bool
is_stale b = b.stale

-- what an entry is refused with, if with anything: the derivation, then that it stands, then that 2,048 stand
abbrev pub entry_refusal : ℕ → List Derivation → Derivation → Option Refusal
entry_refusal n ds d = first (improper n d) (add_refusal (adding by_models ds 2048 d))

-- what a strike is refused with, if with anything: a model, then that the derivation does not stand
abbrev pub strike_refusal : ℕ → List Derivation → Derivation → Option Refusal
strike_refusal n ds d = first (unknown n d) (remove_refusal (removing by_models ds d))

-- derivations entered in turn where others stand already: what stands then, or the first refusal
abbrev pub in_turn : ℕ → List Derivation → List Derivation → Result (List Derivation) Refusal
in_turn n ds [] = Ok ds
in_turn n ds (e ∷ es) = unless (entry_refusal n ds e) (in_turn n (insert by_models ds e) es)

-- an entry, by the book before and after
abbrev pub Enters : Book → Derivation → Result (Unit {0}) Refusal → Book → Type 0
Enters was d (Ok u) b =
    (entry_refusal (models (count_of was)) (standing was) d ≡ None)
    × (standing b ≡ insert by_models (standing was) d) × (count_of b ≡ count_of was) × (is_stale b ≡ true)
Enters was d (Err e) b = (entry_refusal (models (count_of was)) (standing was) d ≡ Some e) × (b ≡ was)

-- a strike, by the book before and after
abbrev pub Strikes : Book → Derivation → Result (Unit {0}) Refusal → Book → Type 0
Strikes was d (Ok u) b =
    (strike_refusal (models (count_of was)) (standing was) d ≡ None)
    × (standing b ≡ delete by_models (standing was) d) × (count_of b ≡ count_of was) × (is_stale b ≡ true)
Strikes was d (Err e) b = (strike_refusal (models (count_of was)) (standing was) d ≡ Some e) × (b ≡ was)
