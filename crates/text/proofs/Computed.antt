-- The computed first number is the one that reading answers.
use Rattle.std.proofs.Common.{◌≡◌, ℕ, ◌+◌, ◌<◌, ◌≤◌, Bool, true, false, cond, not, ◌&&◌, ◌||◌, eqb, ltb, leb, List, [], ◌∷◌, length, get_or, take, drop, Some, None, sym, refl, ◌∙◌, one-add, subst, ⊎_elim, arith, MatchOption}
use Rattle.std.specs.Char.{is_ascii_digit}
use Rattle.std.specs.Str.Parse.{digits_value}
use Rattle.std.proofs.lemmas.Bool.{and_parts, and_from, or_cases, or_left, or_right, not-true, not_from_false, ltb-true, leb-true, eqb-false, lt-ltb, le-leb, ne_eqb, cases_eq, true≢false, cond_both}
use Rattle.text.specs.Numerals.{Begins, NoNumeral, lead, plain, first_number}
use Rattle.text.proofs.Fronts.{Front, Canon, front_canon, front_length, front_reads}

by_digit : (c : ℕ) (cs : List ℕ) (t : Bool) → is_ascii_digit c ≡ t → Front cs (lead cs) → Front (c ∷ cs) (cond t (1 + lead cs) 0)
by_digit c cs true e f = rw one-add (record { within = omega (arith, f.within); front = and_from _ _ e f.front; ends = f.ends })
by_digit c cs false e f = record { within = omega arith; front = refl; ends = e }

pub lead_front : (bytes : List ℕ) → Front bytes (lead bytes)
lead_front [] = record { within = omega arith; front = refl; ends = refl }
lead_front (c ∷ cs) = by_digit c cs (is_ascii_digit c) refl (lead_front cs)

pub lead_at : (bytes : List ℕ) (k : ℕ) → k ≡ lead bytes → Front bytes k
lead_at bytes k e = let P : ℕ → Type 0 = λ n. Front bytes n in subst P (sym e) (lead_front bytes)

pub plain_canon : (ds : List ℕ) (v : ℕ) → v < 65536 → Canon ds v → plain ds ≡ true
unfolding plain
plain_canon ds v h k =
    let val : digits_value 10 ds ≡ v = k.val in
    and_from _ _ (and_from _ _ (lt-ltb 0 (length ds) k.some) (le-leb (length ds) 5 k.few))
    (and_from _ _
    (⊎_elim (λ e. or_left (ltb (length ds) 2) (not (eqb (get_or ds 0 0) 48)) (lt-ltb (length ds) 2 (omega (arith, k.lead e))))
    (λ n. or_right (ltb (length ds) 2) (not (eqb (get_or ds 0 0) 48)) (not_from_false (eqb (get_or ds 0 0) 48) (ne_eqb (get_or ds 0 0) 48 n)))
    (cases_eq (get_or ds 0 0) 48))
    (le-leb (digits_value 10 ds) 65535 (omega arith)))

pub record Plain (ds : List ℕ) : Type 0 where
  pub some : 0 < length ds
  pub alone : get_or ds 0 0 ≡ 48 → length ds < 2
  pub most : digits_value 10 ds ≤ 65535

pub plain_parts : (ds : List ℕ) → plain ds ≡ true → Plain ds
unfolding plain
plain_parts ds e =
    let p = and_parts (ltb 0 (length ds) && leb (length ds) 5) ((ltb (length ds) 2 || not (eqb (get_or ds 0 0) 48)) && leb (digits_value 10 ds) 65535) e in
    let q = and_parts (ltb 0 (length ds)) (leb (length ds) 5) p.0 in
    let r = and_parts (ltb (length ds) 2 || not (eqb (get_or ds 0 0) 48)) (leb (digits_value 10 ds) 65535) p.1 in
    record {
      some = ltb-true 0 (length ds) q.0;
      alone = λ z. ⊎_elim (λ l. ltb-true (length ds) 2 l) (λ n. absurd (eqb-false (get_or ds 0 0) 48 (not-true (eqb (get_or ds 0 0) 48) n) z))
          (or_cases (ltb (length ds) 2) (not (eqb (get_or ds 0 0) 48)) r.0);
      most = leb-true (digits_value 10 ds) 65535 r.1;
    }

-- the computed answer is the right one
pub first_number_is : (bytes : List ℕ) → MatchOption (first_number bytes) (NoNumeral bytes) (λ p. Begins bytes p.0 p.1)
first_number_is bytes =
    let k : ℕ = lead bytes in
    let ds : List ℕ = take k bytes in
    let f : Front bytes k = lead_front bytes in
    let l : length ds ≡ k = front_length bytes k f in
    cond_both (plain ds) (Some (digits_value 10 ds, drop k bytes)) None
    (λ o. MatchOption o (NoNumeral bytes) (λ p. Begins bytes p.0 p.1))
    (λ e. let p = plain_parts ds e in
    (front_reads bytes k (digits_value 10 ds) f (omega (arith, p.some)) (λ z. omega (arith, p.some, p.alone z)) refl (omega (arith, p.most))).0)
    (λ e v rest b. true≢false (sym (plain_canon ds v b.small (front_canon bytes k f v rest b)) ∙ e))
