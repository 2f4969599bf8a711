-- Laws of searches, sums and counts over the numbers below n, and of tests. Assumes nothing.
use Rattle.std.proofs.Common.{◌≡◌, ℕ, zero, suc, ◌+◌, ◌*◌, ◌<◌, ◌≤◌, Bool, true, false, cond, ◌||◌, eqb, ◌⊎◌, sym, refl, ap, ◌∙◌, inl, inr, mul_comm, mul-suc, add-one, arith}
use Rattle.std.proofs.lemmas.Bool.{true≢false, false≢true, cases_lt, or_cases, or_left, or_right, eqb-true, eq-eqb}
use Rattle.lineage.specs.Finite.{any, total, count, least}

-- tests
pub refuted : (b : Bool) → (b ≡ true → ⊥) → b ≡ false
refuted true h = absurd (h refl)
refuted false h = refl

pub same_tests : (p q : Bool) → (p ≡ true → q ≡ true) → (q ≡ true → p ≡ true) → p ≡ q
same_tests true q f g = sym (f refl)
same_tests false true f g = g refl
same_tests false false f g = refl

-- searches
pub any_hit : (n : ℕ) (p : ℕ → Bool) (k : ℕ) → k < n → p k ≡ true → any n p ≡ true
any_hit zero p k h e = absurd (omega arith)
any_hit (suc n) p k h e = elim (cases_lt k n) [
  | inl l ↦ or_right (p n) (any n p) (any_hit n p k l e)
  | inr l ↦ or_left (p n) (any n p) (let s : k ≡ n = omega arith in rw s at e)
]

pub any_some : (n : ℕ) (p : ℕ → Bool) → any n p ≡ true → (k : ℕ) × (k < n) × (p k ≡ true)
any_some zero p e = absurd (false≢true e)
any_some (suc n) p e = elim (or_cases (p n) (any n p) e) [
  | inl h ↦ (n, omega arith, h)
  | inr h ↦ let r = any_some n p h in let l : r.0 < n = r.1 in (r.0, omega arith, r.2)
]

pub record Least (n : ℕ) (p : ℕ → Bool) (r : ℕ) : Type 0 where
  pub within : r ≤ n
  pub under : (k : ℕ) → k < r → p k ≡ false
  pub hit : r < n → p r ≡ true

least_step : (n : ℕ) (p : ℕ → Bool) (r : ℕ) → Least n p r → (b : Bool) → p r ≡ b → Least (suc n) p (cond b r (suc n))
least_step n p r l true e = let w = l.within in record { within = omega arith; under = l.under; hit = λ _. e }
least_step n p r l false e =
    let w = l.within in
    let full : r ≡ n = elim (cases_lt r n) [ inl h ↦ absurd (true≢false (sym (l.hit h) ∙ e)) | inr h ↦ omega arith ] in
    record {
      within = omega arith;
      under = λ k h. elim (cases_lt k r) [ inl g ↦ l.under k g | inr g ↦ let s : k ≡ r = omega arith in rw s e ];
      hit = λ h. absurd (omega arith);
    }

pub least_is : (n : ℕ) (p : ℕ → Bool) → Least n p (least n p)
least_is zero p = record { within = omega arith; under = λ k h. absurd (omega arith); hit = λ h. absurd (omega arith) }
least_is (suc n) p = least_step n p (least n p) (least_is n p) (p (least n p)) refl

-- sums
pub total_le : (n : ℕ) (f g : ℕ → ℕ) → ((k : ℕ) → k < n → f k ≤ g k) → total n f ≤ total n g
total_le zero f g h = omega arith
total_le (suc n) f g h = omega (arith, total_le n f g (λ k l. h k (omega arith)), h n (omega arith))

pub total_lt : (n : ℕ) (f g : ℕ → ℕ) → ((k : ℕ) → k < n → f k ≤ g k) → (k : ℕ) → k < n → f k < g k → total n f < total n g
total_lt zero f g h k l s = absurd (omega arith)
total_lt (suc n) f g h k l s = elim (cases_lt k n) [
  | inl m ↦ omega (arith, total_lt n f g (λ k l. h k (omega arith)) k m s, h n (omega arith))
  | inr m ↦ let e : k ≡ n = omega arith in let s' : f n < g n = rw e at s in omega (arith, total_le n f g (λ k l. h k (omega arith)))
]

pub total_some : (n : ℕ) (f g : ℕ → ℕ) → total n f < total n g → (k : ℕ) × (k < n) × (f k < g k)
total_some zero f g h = absurd (omega arith)
total_some (suc n) f g h = elim (cases_lt (f n) (g n)) [
  | inl l ↦ (n, omega arith, l)
  | inr l ↦ let r = total_some n f g (omega arith) in let m : r.0 < n = r.1 in (r.0, omega arith, r.2)
]

pub total_add : (n : ℕ) (f g : ℕ → ℕ) → total n (λ k. f k + g k) ≡ total n f + total n g
total_add zero f g = omega arith
total_add (suc n) f g = omega (arith, total_add n f g)

pub total_same : (n : ℕ) (f g : ℕ → ℕ) → ((k : ℕ) → k < n → f k ≡ g k) → total n f ≡ total n g
total_same zero f g h = refl
total_same (suc n) f g h = omega (arith, total_same n f g (λ k l. h k (omega arith)), h n (omega arith))

-- tests as the numbers 1 and 0
abbrev pub bit : Bool → ℕ
bit b = cond b 1 0

pub bit_le : (p q : Bool) → (p ≡ true → q ≡ true) → bit p ≤ bit q
bit_le true true h = omega arith
bit_le true false h = absurd (false≢true (h refl))
bit_le false q h = omega arith

pub bit_lt : (p q : Bool) → p ≡ false → q ≡ true → bit p < bit q
bit_lt true q e f = absurd (true≢false e)
bit_lt false true e f = omega arith
bit_lt false false e f = absurd (false≢true f)

pub bit_lt_back : (p q : Bool) → bit p < bit q → (p ≡ false) × (q ≡ true)
bit_lt_back true true h = absurd (omega arith)
bit_lt_back true false h = absurd (omega arith)
bit_lt_back false true h = (refl, refl)
bit_lt_back false false h = absurd (omega arith)

-- p implies q or r
pub bit_or : (p q r : Bool) → (p ≡ true → (q ≡ true) ⊎ (r ≡ true)) → bit p ≤ bit q + bit r
bit_or true true r h = omega arith
bit_or true false true h = omega arith
bit_or true false false h = elim (h refl) [ inl e ↦ absurd (false≢true e) | inr e ↦ absurd (false≢true e) ]
bit_or false q r h = omega arith

pub bit_lt_or : (p q r : Bool) → p ≡ false → r ≡ true → bit p < bit q + bit r
bit_lt_or true q r e f = absurd (true≢false e)
bit_lt_or false q true e f = omega arith
bit_lt_or false q false e f = absurd (false≢true f)

-- p and q are apart, and each implies r
pub bit_apart : (p q r : Bool) → (p ≡ true → q ≡ true → ⊥) → (p ≡ true → r ≡ true) → (q ≡ true → r ≡ true) → bit p + bit q ≤ bit r
bit_apart true true r a h k = absurd (a refl refl)
bit_apart true false true a h k = omega arith
bit_apart true false false a h k = absurd (false≢true (h refl))
bit_apart false true true a h k = omega arith
bit_apart false true false a h k = absurd (false≢true (k refl))
bit_apart false false r a h k = omega arith

pub total_none : (n : ℕ) (f : ℕ → ℕ) → ((k : ℕ) → k < n → f k ≡ 0) → total n f ≡ 0
total_none zero f h = refl
total_none (suc n) f h = omega (arith, total_none n f (λ k l. h k (omega arith)), h n (omega arith))

pub count_fits : (n : ℕ) (p : ℕ → Bool) → count n p ≤ n
count_fits zero p = omega arith
count_fits (suc n) p = omega (arith, count_fits n p, bit_le (p n) true (λ _. refl))

pub count_misses : (n : ℕ) (p : ℕ → Bool) (k : ℕ) → k < n → p k ≡ false → count n p < n
count_misses n p k l e = omega (
  arith,
  count_fits n (λ _. true),
  total_lt n (λ j. bit (p j)) (λ j. bit true) (λ j m. bit_le (p j) true (λ _. refl)) k l (bit_lt (p k) true e refl),
)

pub count_has : (n : ℕ) (p : ℕ → Bool) (k : ℕ) → k < n → p k ≡ true → 0 < count n p
count_has n p k l e = omega (
  arith,
  total_lt n (λ j. 0) (λ j. bit (p j)) (λ j m. omega arith) k l (bit_lt false (p k) refl e),
)

-- p is q or r, which are apart
pub bit_split : (p q r : Bool) → (p ≡ true → (q ≡ true) ⊎ (r ≡ true)) → (q ≡ true → p ≡ true) → (r ≡ true → p ≡ true) → (q ≡ true → r ≡ true → ⊥) → bit p ≡ bit q + bit r
bit_split p q r f g h k = omega (arith, bit_or p q r f, bit_apart q r p k g h)

pub bit_true : (b : Bool) → 0 < bit b → b ≡ true
bit_true true h = refl
bit_true false h = absurd (omega arith)

pub count_split : (n : ℕ) (p q r : ℕ → Bool) → ((h : ℕ) → h < n → bit (p h) ≡ bit (q h) + bit (r h)) → count n p ≡ count n q + count n r
count_split n p q r f = total_same n (λ h. bit (p h)) (λ h. bit (q h) + bit (r h)) f ∙ total_add n (λ h. bit (q h)) (λ h. bit (r h))

pub count_same : (n : ℕ) (p q : ℕ → Bool) → ((k : ℕ) → k < n → p k ≡ q k) → count n p ≡ count n q
count_same n p q h = total_same n (λ k. bit (p k)) (λ k. bit (q k)) (λ k l. ap bit (h k l))

pub count_one : (n g : ℕ) → g < n → count n (λ h. eqb h g) ≡ 1
count_one zero g l = absurd (omega arith)
count_one (suc n) g l = elim (cases_lt g n) [
  | inl m ↦ omega (arith, count_one n g m, ap bit (refuted (eqb n g) (λ e. let s = eqb-true n g e in omega arith)))
  | inr m ↦
      let s : n ≡ g = omega arith in
      omega (arith, ap bit (eq-eqb n g s), total_none n (λ h. bit (eqb h g)) (λ h k. ap bit (refuted (eqb h g) (λ e. let i = eqb-true h g e in omega arith))))
]

pub count_at_most_one : (n x : ℕ) → count n (λ b. eqb x b) ≤ 1
count_at_most_one zero x = omega arith
count_at_most_one (suc n) x = go (eqb x n) refl (count_at_most_one n x)
  where
    go : (t : Bool) → eqb x n ≡ t → count n (λ b. eqb x b) ≤ 1 → count n (λ b. eqb x b) + bit t ≤ 1
    go true e h =
        let s : x ≡ n = eqb-true x n e in
        omega (arith, total_none n (λ b. bit (eqb x b)) (λ b l. ap bit (refuted (eqb x b) (λ q. let r = eqb-true x b q in omega arith))))
    go false e h = omega arith

-- no more numbers are images than there are places
pub image_small : (n t : ℕ) (f : ℕ → ℕ) → count n (λ i. any t (λ k. eqb (f k) i)) ≤ t
image_small n zero f = omega (arith, total_none n (λ i. 0) (λ k l. refl))
image_small n (suc t) f = omega (
  arith,
  total_le n (λ i. bit (any (suc t) (λ k. eqb (f k) i))) (λ i. bit (eqb (f t) i) + bit (any t (λ k. eqb (f k) i)))
      (λ i l. bit_or (any (suc t) (λ k. eqb (f k) i)) (eqb (f t) i) (any t (λ k. eqb (f k) i)) (or_cases (eqb (f t) i) (any t (λ k. eqb (f k) i)))),
  total_add n (λ i. bit (eqb (f t) i)) (λ i. bit (any t (λ k. eqb (f k) i))),
  count_at_most_one n (f t),
  image_small n t f,
)

-- one more in a search, a sum, a count
pub any_more : (i : ℕ) (p : ℕ → Bool) → any (i + 1) p ≡ (p i || any i p)
any_more i p = ap (λ (k : ℕ). any k p) (add-one i)

pub total_more : (i : ℕ) (f : ℕ → ℕ) → total (i + 1) f ≡ total i f + f i
total_more i f = ap (λ (k : ℕ). total k f) (add-one i)

pub count_more : (i : ℕ) (p : ℕ → Bool) → count (i + 1) p ≡ count i p + bit (p i)
count_more i p = ap (λ (k : ℕ). count k p) (add-one i)

-- sums over pairs
pub total_swap : (n m : ℕ) (f : ℕ → ℕ → ℕ) → total n (λ a. total m (f a)) ≡ total m (λ b. total n (λ a. f a b))
total_swap zero m f = sym (total_none m (λ b. 0) (λ k l. refl))
total_swap (suc n) m f = omega (arith, total_swap n m f, total_add m (λ b. total n (λ a. f a b)) (f n))

abbrev pub total2 : ℕ → (ℕ → ℕ → ℕ) → ℕ
total2 n f = total n (λ a. total n (f a))

pub total2_le : (n : ℕ) (f g : ℕ → ℕ → ℕ) → ((a b : ℕ) → a < n → b < n → f a b ≤ g a b) → total2 n f ≤ total2 n g
total2_le n f g h = total_le n (λ a. total n (f a)) (λ a. total n (g a)) (λ a l. total_le n (f a) (g a) (λ b m. h a b l m))

pub total2_same : (n : ℕ) (f g : ℕ → ℕ → ℕ) → ((a b : ℕ) → a < n → b < n → f a b ≡ g a b) → total2 n f ≡ total2 n g
total2_same n f g h = total_same n (λ a. total n (f a)) (λ a. total n (g a)) (λ a l. total_same n (f a) (g a) (λ b m. h a b l m))

pub total2_add : (n : ℕ) (f g : ℕ → ℕ → ℕ) → total2 n (λ a b. f a b + g a b) ≡ total2 n f + total2 n g
total2_add n f g = total_same n (λ a. total n (λ b. f a b + g a b)) (λ a. total n (f a) + total n (g a)) (λ a l. total_add n (f a) (g a))
    ∙ total_add n (λ a. total n (f a)) (λ a. total n (g a))

pub total_each : (n c : ℕ) → total n (λ k. c) ≡ n * c
total_each zero c = omega arith
total_each (suc n) c = omega (arith, total_each n c, mul_comm n c, mul_comm (suc n) c, mul-suc c n)

-- a sum from its front
pub total_front : (n : ℕ) (f : ℕ → ℕ) → total (suc n) f ≡ f 0 + total n (λ k. f (suc k))
total_front zero f = omega arith
total_front (suc n) f = omega (arith, total_front n f)

-- a sum of small terms
pub total_most : (n c : ℕ) (f : ℕ → ℕ) → ((k : ℕ) → k < n → f k ≤ c) → total n f ≤ n * c
total_most n c f h = omega (arith, total_le n f (λ k. c) h, total_each n c)
