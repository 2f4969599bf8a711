-- No place of a file is refused exactly if its derivations are all proper and rise.
use Rattle.std.proofs.Common.{◌≡◌, ℕ, Bool, true, false, cond, ◌&&◌, List, [], ◌∷◌, Some, None, Option, refl, ap, ◌∙◌}
use Rattle.std.specs.Option.{option_map}
use Rattle.std.specs.Ordering.{is_lt}
use Rattle.std.proofs.lemmas.Bool.{and_parts, and_from}
use Rattle.rising.specs.Lists.{below_first, rising}
use Rattle.book.specs.declared.derivation.Derivation.{Derivation}
use Rattle.book.specs.declared.refusal.Refusal.{Refusal}
use Rattle.book.specs.Order.{by_models}
use Rattle.book.specs.Refusals.{first}
use Rattle.book.specs.Derivations.{proper, all_proper, improper}
use Rattle.book.proofs.Derivations.{proper_from, proper_to}
use Rattle.bookfile.specs.declared.refusal.FileRefusal.{FileRefusal}
use Rattle.bookfile.specs.declared.refusal.FileRefusal.TheVariants.{Book, NotRising}
use Rattle.bookfile.specs.Table.{follows, place_refusal, places_refusal}

-- of two refusals neither is owed
pub first_none : {E : Type 0} (a b : Option E) → first a b ≡ None → (a ≡ None) × (b ≡ None)
first_none None b e = (refl, e)
first_none (Some f) b e = cc

pub mapped_none : (o : Option Refusal) → option_map Book o ≡ None → o ≡ None
mapped_none None e = refl
mapped_none (Some r) e = cc

rising_none : (b : Bool) → ◌≡◌ {A = Option FileRefusal} (cond b None (Some NotRising)) None → b ≡ true
rising_none true e = refl
rising_none false e = cc

-- a list rises, behind what was before it
abbrev pub rising_behind : Option Derivation → List Derivation → Bool
rising_behind None ds = rising by_models ds
rising_behind (Some before) ds = below_first by_models before ds && rising by_models ds

behind_none : (before : Option Derivation) → rising_behind before [] ≡ true
behind_none None = refl
behind_none (Some b) = refl

behind_from : (before : Option Derivation) (d : Derivation) (ds : List Derivation) → follows before d ≡ true → rising by_models (d ∷ ds) ≡ true → rising_behind before (d ∷ ds) ≡ true
behind_from None d ds f r = r
behind_from (Some b) d ds f r = and_from (is_lt (by_models b d)) (rising by_models (d ∷ ds)) f r

behind_parts : (before : Option Derivation) (d : Derivation) (ds : List Derivation) → rising_behind before (d ∷ ds) ≡ true → (follows before d ≡ true) × (rising by_models (d ∷ ds) ≡ true)
behind_parts None d ds r = (refl, r)
behind_parts (Some b) d ds r = and_parts (is_lt (by_models b d)) (rising by_models (d ∷ ds)) r

module _ (n : ℕ) where
  pub places_valid : (before : Option Derivation) (ds : List Derivation) → places_refusal n before ds ≡ None → (all_proper n ds ≡ true) × (rising_behind before ds ≡ true)
  places_valid before [] e = (refl, behind_none before)
  places_valid before (d ∷ ds) e =
      let o = first_none (place_refusal n before d) (places_refusal n (Some d) ds) e in
      let p = first_none (option_map Book (improper n d)) (cond (follows before d) None (Some NotRising)) o.0 in
      let q = proper_from n d (mapped_none (improper n d) p.0) in
      let r = places_valid (Some d) ds o.1 in
      (and_from (proper n d) (all_proper n ds) q r.0, behind_from before d ds (rising_none (follows before d) p.1) r.1)

  pub valid_places : (before : Option Derivation) (ds : List Derivation) → all_proper n ds ≡ true → rising_behind before ds ≡ true → places_refusal n before ds ≡ None
  valid_places before [] a r = refl
  valid_places before (d ∷ ds) a r =
      let p = and_parts (proper n d) (all_proper n ds) a in
      let b = behind_parts before d ds r in
      ap (λ (o : Option Refusal). first (first (option_map Book o) (cond (follows before d) None (Some NotRising))) (places_refusal n (Some d) ds)) (proper_to n d p.0)
      ∙ ap (λ (t : Bool). first (cond t None (Some NotRising)) (places_refusal n (Some d) ds)) b.0
      ∙ valid_places (Some d) ds p.1 b.1
