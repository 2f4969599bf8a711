-- A line is the text of one form alone.
use Rattle.std.proofs.Common.{◌≡◌, ℕ, ◌<◌, Bool, true, false, cond, eqb, ◌↔◌, List, [], ◌∷◌, ◌++◌, length, get_or, Some, None, decimal, Option, sym, refl, ap, ◌∙◌, arith, MatchOption}
use Rattle.std.specs.Bool.{then_some}
use Rattle.std.proofs.lemmas.Bool.{eqb-true, eqb-false}
use Rattle.std.proofs.lemmas.List.{append_cancel_left, nil_from_length}
use Rattle.text.specs.Numerals.{digit_first, Begins, NoNumeral}
use Rattle.text.proofs.Fronts.{begins_same}
use Rattle.lines.specs.declared.form.Form.{Form}
use Rattle.lines.specs.declared.form.Form.TheVariants.{Enter, Strike, Index, Hold, Release, Order}
use Rattle.lines.specs.Forms.{letter_of, numbers_of, Small}
use Rattle.lines.specs.Texts.{spaced, listed, text, Parsed, Spaced, NoNext, NoOne, NoTwo}

pub listed_ends : (ns : List ℕ) → digit_first (listed ns) ≡ false
listed_ends [] = refl
listed_ends (n ∷ ns) = refl

pub tail_same : (a b : ℕ) (xs ys : List ℕ) → a ∷ xs ≡ b ∷ ys → xs ≡ ys
tail_same a b xs ys e = cc

pub head_same : (a b : ℕ) (xs ys : List ℕ) → a ∷ xs ≡ b ∷ ys → a ≡ b
head_same a b xs ys e = cc

-- bytes begin with one spaced number alone
pub spaced_same : (bytes : List ℕ) (u v : ℕ) (r s : List ℕ) → Spaced bytes u r → Spaced bytes v s → (u ≡ v) × (r ≡ s)
spaced_same bytes u v r s a b =
    let t : decimal u ++ r ≡ decimal v ++ s = tail_same 32 32 (decimal u ++ r) (decimal v ++ s) (sym a.whole ∙ b.whole) in
    let p : Begins (decimal u ++ r) u r = record { small = a.small; whole = refl; ends = a.ends } in
    let q : Begins (decimal u ++ r) v s = record { small = b.small; whole = t; ends = b.ends } in
    let e : u ≡ v = begins_same (decimal u ++ r) u v r s p q in
    (e, append_cancel_left (decimal u) r s (t ∙ ap (λ n. decimal n ++ s) (sym e)))

-- bytes that go on behind a spaced number are not one
pub not_alone : (bytes : List ℕ) (u : ℕ) (rest : List ℕ) → Spaced bytes u rest → (rest ≡ [] → ⊥) → NoOne bytes
not_alone bytes u rest s n v h e = n (spaced_same bytes u v rest [] s (record { small = h; whole = e; ends = refl })).1

-- and where one is behind it and no other, they are not two
pub no_second : (bytes : List ℕ) (u : ℕ) (rest : List ℕ) → Spaced bytes u rest → NoOne rest → NoTwo bytes
no_second bytes u rest s n v w h k e = n w k (spaced_same bytes u v rest (listed (w ∷ [])) s (record { small = h; whole = e; ends = refl })).1

alone_by : (t : Bool) (bytes : List ℕ) (u : ℕ) (rest : List ℕ) → eqb (length rest) 0 ≡ t → Spaced bytes u rest → MatchOption (then_some t u) (NoOne bytes) (λ v. bytes ≡ listed (v ∷ []))
alone_by true bytes u rest e s = s.whole ∙ ap (λ xs. spaced u ++ xs) (nil_from_length rest (eqb-true (length rest) 0 e))
alone_by false bytes u rest e s = not_alone bytes u rest s (λ z. eqb-false (length rest) 0 e (ap length z))

-- a spaced number with nothing behind it, or none
pub alone : (bytes : List ℕ) (u : ℕ) (rest : List ℕ) → Spaced bytes u rest → MatchOption (then_some (eqb (length rest) 0) u) (NoOne bytes) (λ v. bytes ≡ listed (v ∷ []))
alone bytes u rest s = alone_by (eqb (length rest) 0) bytes u rest refl s

pub listed_spaced : (n : ℕ) (ns : List ℕ) → n < 65536 → Spaced (listed (n ∷ ns)) n (listed ns)
listed_spaced n ns h = record { small = h; whole = refl; ends = listed_ends ns }

-- the numbers of a listing are these alone
pub listed_same : (ms ns : List ℕ) → Small ms → Small ns → listed ms ≡ listed ns → ms ≡ ns
listed_same [] [] a b e = refl
listed_same [] (n ∷ ns) a b e = absurd (let z : ◌≡◌ {A = ℕ} 0 1 = cc in omega arith)
listed_same (m ∷ ms) [] a b e = absurd (let z : ◌≡◌ {A = ℕ} 0 1 = cc in omega arith)
listed_same (m ∷ ms) (n ∷ ns) a b e =
    let q : Spaced (listed (m ∷ ms)) n (listed ns) = record { small = b.0; whole = e; ends = listed_ends ns } in
    let p = spaced_same (listed (m ∷ ms)) m n (listed ms) (listed ns) (listed_spaced m ms a.0) q in
    let h : m ≡ n = p.0 in
    let t : ms ≡ ns = listed_same ms ns a.1 b.1 p.1 in
    cc

-- a call from its letter and its numbers
abbrev made : ℕ → List ℕ → Form
made k ns =
    cond (eqb k 69) (Enter (record { from = get_or ns 0 0; to = get_or ns 1 0 }))
    (cond (eqb k 83) (Strike (record { from = get_or ns 0 0; to = get_or ns 1 0 }))
    (cond (eqb k 73) Index
    (cond (eqb k 72) (Hold (get_or ns 0 0) (get_or ns 1 0))
    (cond (eqb k 82) (Release (get_or ns 0 0) (get_or ns 1 0)) (Order (get_or ns 0 0))))))

made_is : (c : Form) → made (letter_of c) (numbers_of c) ≡ c
made_is (Enter d) = refl
made_is (Strike d) = refl
made_is Index = refl
made_is (Hold m p) = refl
made_is (Release m p) = refl
made_is (Order m) = refl

-- a line is the text of one call alone
pub text_same : (a b : Form) → Small (numbers_of a) → Small (numbers_of b) → text a ≡ text b → a ≡ b
text_same a b f g e =
    let l : letter_of a ≡ letter_of b = head_same _ _ _ _ e in
    let n : numbers_of a ≡ numbers_of b = listed_same (numbers_of a) (numbers_of b) f g (tail_same _ _ _ _ e) in
    sym (made_is a) ∙ ap (λ k. made k (numbers_of a)) l ∙ ap (made (letter_of b)) n ∙ made_is b

pub parsed_heard : (line : List ℕ) (r : Option Form) → Parsed line r → (c : Form) → Small (numbers_of c) → line ≡ text c → r ≡ Some c
parsed_heard line None h c f e = absurd (h c f e)
parsed_heard line (Some d) h c f e = ap Some (text_same d c h.0 f (sym h.1 ∙ e))

-- a form is answered exactly if the line is its text
pub parsed_exactly : (line : List ℕ) (r : Option Form) → Parsed line r → (f : Form) → Small (numbers_of f) → (r ≡ Some f) ↔ (line ≡ text f)
parsed_exactly line None h f s = (λ e. absurd (let z : ◌≡◌ {A = ℕ} 0 1 = cc in omega arith), λ e. absurd (h f s e))
parsed_exactly line (Some d) h f s = (λ e. let t : d ≡ f = cc in h.1 ∙ ap text t, λ e. parsed_heard line (Some d) h f s e)

-- the space taken off the front
pub next_cases : {R : Type 0} (view : R → List ℕ) (bytes more : List ℕ) (r : Option (ℕ × R)) → bytes ≡ 32 ∷ more
    → MatchOption r (NoNumeral more) (λ p. Begins more p.0 (view p.1))
    → MatchOption r (NoNext bytes) (λ p. Spaced bytes p.0 (view p.1))
next_cases view bytes more None e h = λ v rest s.
    h v rest (record { small = s.small; whole = tail_same 32 32 more (decimal v ++ rest) (sym e ∙ s.whole); ends = s.ends })
next_cases view bytes more (Some p) e h =
    record { small = h.small; whole = e ∙ ap (λ xs. 32 ∷ xs) h.whole; ends = h.ends }

pub nil_from_empty : (xs : List ℕ) → true ≡ eqb (length xs) 0 → xs ≡ []
nil_from_empty xs e = nil_from_length xs (eqb-true (length xs) 0 (sym e))

pub some_from_full : (xs : List ℕ) → false ≡ eqb (length xs) 0 → xs ≡ [] → ⊥
some_from_full xs e z = eqb-false (length xs) 0 (sym e) (ap length z)
