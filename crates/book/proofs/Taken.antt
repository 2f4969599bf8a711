-- The test whether v was taken from u: what it says of a list of derivations, and that it relates only models below the count.
use Rattle.std.proofs.Common.{◌≡◌, ℕ, zero, suc, ◌<◌, true, ◌&&◌, eqb, List, [], ◌∷◌, map, length, get_or, is_some, Some, None, Option, Contains, sym, inl, inr, arith}
use Rattle.std.proofs.lemmas.Bool.{false≢true, and_parts, or_cases, eqb-true, cases_Bool}
use Rattle.std.proofs.lemmas.Grind.{common_steps}
use Rattle.std.proofs.lemmas.List.{length-map}
use Rattle.lineage.specs.Finite.{Within}
use Rattle.lineage.specs.Book.{surplus}
use Rattle.lineage.proofs.Few.{surplus_is_below}
use Rattle.rising.specs.Outcomes.{Finds}
use Rattle.book.specs.declared.derivation.Derivation.{Derivation}
use Rattle.book.specs.Derivations.{all_proper, Valid, taken_from}

same_derivation : (d e : Derivation) → d.from ≡ e.from → d.to ≡ e.to → d ≡ e
same_derivation d e p q = λ i. record { from = p i; to = q i }

-- the test is true exactly of the derivations that the list has
pub has_taken : (ds : List Derivation) (d : Derivation) (m : ℕ) → m < length ds → get_or ds m d ≡ d → taken_from ds d.from d.to ≡ true
has_taken [] d m h at = absurd (omega arith)
has_taken (x ∷ xs) d zero h at = grind (arith, common_steps)
has_taken (x ∷ xs) d (suc m) h at =
    let rest = has_taken xs d m in
    grind (arith, common_steps)

pub taken_has : (ds : List Derivation) (d : Derivation) → taken_from ds d.from d.to ≡ true → Contains ds d
taken_has [] d h = absurd (false≢true h)
taken_has (x ∷ xs) d h =
    elim (or_cases (eqb x.from d.from && eqb x.to d.to) (taken_from xs d.from d.to) h) [
      | inl e ↦ (let p = and_parts (eqb x.from d.from) (eqb x.to d.to) e in (0, omega arith, same_derivation x d (eqb-true _ _ p.0) (eqb-true _ _ p.1)))
      | inr t ↦ (let m = taken_has xs d t in let l = m.1 in (suc m.0, omega arith, m.2))
    ]

-- what finding a derivation answers is the test
pub found_taken : (ds : List Derivation) (d : Derivation) (r : Option ℕ) → Finds ds d r → is_some r ≡ taken_from ds d.from d.to
found_taken ds d (Some i) f = sym (has_taken ds d i f.0 (f.1 d))
found_taken ds d None f =
    elim (cases_Bool (taken_from ds d.from d.to)) [ inl t ↦ absurd (f (taken_has ds d t)) | inr t ↦ sym t ]

-- a list of proper derivations relates only models below n
pub taken_below : (n : ℕ) (ds : List Derivation) (u v : ℕ) → all_proper n ds ≡ true → taken_from ds u v ≡ true → (u < n) × (v < n)
taken_below n [] u v a h = absurd (false≢true h)
taken_below n (x ∷ xs) u v a h =
    let rest = taken_below n xs u v in
    grind (arith, common_steps)

-- a valid book relates only models below its count, and its surplus is below 2,048
pub valid_within : (n : ℕ) (ds : List Derivation) → Valid n ds → Within n (taken_from ds)
valid_within n ds v u w h = taken_below n ds u w v.proper h

pub valid_surplus : (n : ℕ) (ds : List Derivation) → Valid n ds → surplus n (taken_from ds) < 2048
valid_surplus n ds v =
    let ends : Derivation → ℕ × ℕ = λ d. (d.from, d.to) in
    let pairs : List (ℕ × ℕ) = map ends ds in
    let few = v.few in
    let l : length pairs ≡ length ds = length-map ds ends in
    (surplus_is_below n pairs (valid_within n ds v)).below_2048 (omega arith)
