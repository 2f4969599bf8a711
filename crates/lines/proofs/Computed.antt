-- The computed form of a line is the one that parsing answers.
use Rattle.std.proofs.Common.{◌≡◌, ℕ, ◌<◌, true, eqb, List, [], ◌∷◌, ◌++◌, Some, None, decimal, Option, sym, refl, ap, ◌∙◌, subst, arith, MatchOption}
use Rattle.std.specs.Option.{option_map, option_and_then}
use Rattle.std.proofs.lemmas.Bool.{eqb-true, eqb-false, cond_both}
use Rattle.text.specs.Numerals.{first_number}
use Rattle.text.proofs.Computed.{first_number_is}
use Rattle.lines.specs.declared.form.Form.{Form}
use Rattle.lines.specs.declared.form.Form.TheVariants.{Enter, Strike, Index, Hold, Release, Order}
use Rattle.lines.specs.Texts.{spaced, listed, Parsed, NoNext, NoOne, NoTwo, Spaced}
use Rattle.lines.specs.Computed.{next_of, lone, one_of, two_of, bare, form_of}
use Rattle.lines.proofs.Texts.{next_cases, not_alone, no_second, head_same, tail_same, parsed_heard}

next_is : (bytes : List ℕ) → MatchOption (next_of bytes) (NoNext bytes) (λ p. Spaced bytes p.0 p.1)
next_is [] = λ v rest s. let e = s.whole in let z : ◌≡◌ {A = ℕ} 0 1 = cc in omega arith
next_is (c ∷ cs) = cond_both (eqb c 32) (first_number cs) None (λ o. MatchOption o (NoNext (c ∷ cs)) (λ p. Spaced (c ∷ cs) p.0 p.1))
    (λ e. next_cases (λ xs. xs) (c ∷ cs) cs (first_number cs) (ap (λ b. b ∷ cs) (eqb-true c 32 e)) (first_number_is cs))
    (λ e v rest s. eqb-false c 32 e (head_same c 32 cs (decimal v ++ rest) s.whole))

lone_is : (bytes : List ℕ) (v : ℕ) (rest : List ℕ) → Spaced bytes v rest → MatchOption (lone v rest) (NoOne bytes) (λ w. (w < 65536) × (bytes ≡ listed (w ∷ [])))
lone_is bytes v [] s = (s.small, s.whole)
lone_is bytes v (c ∷ cs) s = not_alone bytes v (c ∷ cs) s (λ e. let z : ◌≡◌ {A = ℕ} 0 1 = cc in omega arith)

lone_of_is : (bytes : List ℕ) (o : Option (ℕ × List ℕ)) → MatchOption o (NoNext bytes) (λ p. Spaced bytes p.0 p.1)
    → MatchOption (option_and_then (λ p. lone p.0 p.1) o) (NoOne bytes) (λ w. (w < 65536) × (bytes ≡ listed (w ∷ [])))
lone_of_is bytes None h = λ w l e. h w [] (record { small = l; whole = e; ends = refl })
lone_of_is bytes (Some p) h = lone_is bytes p.0 p.1 h

one_is : (bytes : List ℕ) → MatchOption (one_of bytes) (NoOne bytes) (λ w. (w < 65536) × (bytes ≡ listed (w ∷ [])))
one_is bytes = lone_of_is bytes (next_of bytes) (next_is bytes)

beside_is : (bytes : List ℕ) (u : ℕ) (rest : List ℕ) (o : Option ℕ) → Spaced bytes u rest
    → MatchOption o (NoOne rest) (λ w. (w < 65536) × (rest ≡ listed (w ∷ [])))
    → MatchOption {T = ℕ × ℕ} (option_map (λ v. (u, v)) o) (NoTwo bytes) (λ p. ((p.0 < 65536) × (p.1 < 65536)) × (bytes ≡ listed (p.0 ∷ (p.1 ∷ []))))
beside_is bytes u rest None s h = no_second bytes u rest s h
beside_is bytes u rest (Some v) s h = ((s.small, h.0), s.whole ∙ ap (λ xs. spaced u ++ xs) h.1)

pair_is : (bytes : List ℕ) (o : Option (ℕ × List ℕ)) → MatchOption o (NoNext bytes) (λ p. Spaced bytes p.0 p.1)
    → MatchOption {T = ℕ × ℕ} (option_and_then (λ p. option_map (λ v. (p.0, v)) (one_of p.1)) o) (NoTwo bytes) (λ p. ((p.0 < 65536) × (p.1 < 65536)) × (bytes ≡ listed (p.0 ∷ (p.1 ∷ []))))
pair_is bytes None h = λ a b la lb e. h a (listed (b ∷ [])) (record { small = la; whole = e; ends = refl })
pair_is bytes (Some p) h = beside_is bytes p.0 p.1 (one_of p.1) h (one_is p.1)

two_is : (bytes : List ℕ) → MatchOption (two_of bytes) (NoTwo bytes) (λ p. ((p.0 < 65536) × (p.1 < 65536)) × (bytes ≡ listed (p.0 ∷ (p.1 ∷ []))))
two_is bytes = pair_is bytes (next_of bytes) (next_is bytes)

-- no call has this letter and what stands behind it
no_form : (l : ℕ) (rest : List ℕ)
    → (l ≡ 69 → NoTwo rest) → (l ≡ 83 → NoTwo rest) → (l ≡ 73 → rest ≡ [] → ⊥)
    → (l ≡ 72 → NoTwo rest) → (l ≡ 82 → NoTwo rest) → (l ≡ 67 → NoOne rest) → Parsed (l ∷ rest) None
no_form l rest he hs hi hh hr ho (Enter d) f e = he (head_same _ _ _ _ e) d.from d.to f.0 f.1.0 (tail_same _ _ _ _ e)
no_form l rest he hs hi hh hr ho (Strike d) f e = hs (head_same _ _ _ _ e) d.from d.to f.0 f.1.0 (tail_same _ _ _ _ e)
no_form l rest he hs hi hh hr ho Index f e = hi (head_same _ _ _ _ e) (tail_same _ _ _ _ e)
no_form l rest he hs hi hh hr ho (Hold u v) f e = hh (head_same _ _ _ _ e) u v f.0 f.1.0 (tail_same _ _ _ _ e)
no_form l rest he hs hi hh hr ho (Release u v) f e = hr (head_same _ _ _ _ e) u v f.0 f.1.0 (tail_same _ _ _ _ e)
no_form l rest he hs hi hh hr ho (Order u) f e = ho (head_same _ _ _ _ e) u f.0 (tail_same _ _ _ _ e)

twice_is : (l : ℕ) (rest : List ℕ) (f : ℕ × ℕ → Form) (o : Option (ℕ × ℕ))
    → ((u v : ℕ) → u < 65536 → v < 65536 → rest ≡ listed (u ∷ (v ∷ [])) → Parsed (l ∷ rest) (Some (f (u, v))))
    → (NoTwo rest → Parsed (l ∷ rest) None)
    → MatchOption o (NoTwo rest) (λ p. ((p.0 < 65536) × (p.1 < 65536)) × (rest ≡ listed (p.0 ∷ (p.1 ∷ []))))
    → Parsed (l ∷ rest) (option_map f o)
twice_is l rest f None y n h = n h
twice_is l rest f (Some p) y n h = y p.0 p.1 h.0.0 h.0.1 h.1

once_is : (l : ℕ) (rest : List ℕ) (f : ℕ → Form) (o : Option ℕ)
    → ((v : ℕ) → v < 65536 → rest ≡ listed (v ∷ []) → Parsed (l ∷ rest) (Some (f v)))
    → (NoOne rest → Parsed (l ∷ rest) None)
    → MatchOption o (NoOne rest) (λ v. (v < 65536) × (rest ≡ listed (v ∷ [])))
    → Parsed (l ∷ rest) (option_map f o)
once_is l rest f None y n h = n h
once_is l rest f (Some v) y n h = y v h.0 h.1

bare_is : (rest : List ℕ) → Parsed (73 ∷ rest) (bare Index rest)
bare_is [] = (tt, refl)
bare_is (x ∷ xs) = no_form 73 (x ∷ xs) (λ z. absurd (omega arith)) (λ z. absurd (omega arith))
    (λ z e. let q : ◌≡◌ {A = ℕ} 0 1 = cc in omega arith)
    (λ z. absurd (omega arith)) (λ z. absurd (omega arith)) (λ z. absurd (omega arith))

at_letter : (l k : ℕ) (rest : List ℕ) (o : Option Form) → eqb l k ≡ true → Parsed (k ∷ rest) o → Parsed (l ∷ rest) o
at_letter l k rest o e p =
    let P : ℕ → Type 0 = λ m. Parsed (m ∷ rest) o in
    subst P (sym (eqb-true l k e)) p

pub form_is : (line : List ℕ) → Parsed line (form_of line)
unfolding form_of
form_is [] = λ c f e. let z : ◌≡◌ {A = ℕ} 0 1 = cc in omega arith
form_is (l ∷ rest) =
    let P : Option Form → Type 0 = λ o. Parsed (l ∷ rest) o in
    cond_both (eqb l 69) _ _ P
    (λ e. at_letter l 69 rest _ e (twice_is 69 rest (λ p. Enter (record { from = p.0; to = p.1 })) (two_of rest) (λ u v a b q. ((a, (b, tt)), ap (λ xs. 69 ∷ xs) q))
    (λ n. no_form 69 rest (λ z. n) (λ z. n) (λ z. absurd (omega arith)) (λ z. n) (λ z. n) (λ z. absurd (omega arith))) (two_is rest)))
    (λ e1. cond_both (eqb l 83) _ _ P
    (λ e. at_letter l 83 rest _ e (twice_is 83 rest (λ p. Strike (record { from = p.0; to = p.1 })) (two_of rest) (λ u v a b q. ((a, (b, tt)), ap (λ xs. 83 ∷ xs) q))
    (λ n. no_form 83 rest (λ z. n) (λ z. n) (λ z. absurd (omega arith)) (λ z. n) (λ z. n) (λ z. absurd (omega arith))) (two_is rest)))
    (λ e2. cond_both (eqb l 73) _ _ P (λ e. at_letter l 73 rest _ e (bare_is rest))
    (λ e3. cond_both (eqb l 72) _ _ P
    (λ e. at_letter l 72 rest _ e (twice_is 72 rest (λ p. Hold p.0 p.1) (two_of rest) (λ u v a b q. ((a, (b, tt)), ap (λ xs. 72 ∷ xs) q))
    (λ n. no_form 72 rest (λ z. n) (λ z. n) (λ z. absurd (omega arith)) (λ z. n) (λ z. n) (λ z. absurd (omega arith))) (two_is rest)))
    (λ e4. cond_both (eqb l 82) _ _ P
    (λ e. at_letter l 82 rest _ e (twice_is 82 rest (λ p. Release p.0 p.1) (two_of rest) (λ u v a b q. ((a, (b, tt)), ap (λ xs. 82 ∷ xs) q))
    (λ n. no_form 82 rest (λ z. n) (λ z. n) (λ z. absurd (omega arith)) (λ z. n) (λ z. n) (λ z. absurd (omega arith))) (two_is rest)))
    (λ e5. cond_both (eqb l 67) _ _ P
    (λ e. at_letter l 67 rest _ e (once_is 67 rest (λ m. Order m) (one_of rest) (λ v a q. ((a, tt), ap (λ xs. 67 ∷ xs) q))
    (λ n. no_form 67 rest (λ z. absurd (omega arith)) (λ z. absurd (omega arith)) (λ z. absurd (omega arith)) (λ z. absurd (omega arith)) (λ z. absurd (omega arith)) (λ z. n)) (one_is rest)))
    (λ e6. no_form l rest (λ z. absurd (eqb-false l 69 e1 z)) (λ z. absurd (eqb-false l 83 e2 z)) (λ z. absurd (eqb-false l 73 e3 z))
    (λ z. absurd (eqb-false l 72 e4 z)) (λ z. absurd (eqb-false l 82 e5 z)) (λ z. absurd (eqb-false l 67 e6 z))))))))

-- so there is one answer alone
parsed_only : (line : List ℕ) (r s : Option Form) → Parsed line r → Parsed line s → r ≡ s
parsed_only line r (Some c) p q = parsed_heard line r p c q.0 q.1
parsed_only line None None p q = refl
parsed_only line (Some c) None p q = absurd (q c p.0 p.1)

pub form_only : (line : List ℕ) (r : Option Form) → Parsed line r → r ≡ form_of line
form_only line r p = parsed_only line r (form_of line) p (form_is line)
