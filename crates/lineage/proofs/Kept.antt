-- How many elements of a list pass a test, and how many of what is made of the pairs of numbers that pass one. Assumes nothing.
use Rattle.std.proofs.Common.{◌≡◌, ℕ, zero, suc, ◌+◌, ◌<◌, ◌≤◌, Bool, true, false, cond, ◌&&◌, List, [], ◌∷◌, ◌++◌, map, length, filter, sym, refl, ap, ◌∙◌, subst, inl, inr, add-zero, zero-add, arith}
use Rattle.std.specs.List.{range_with_len}
use Rattle.std.proofs.lemmas.Bool.{cases_lt}
use Rattle.lineage.specs.Finite.{those, total, count}
use Rattle.lineage.specs.Lists.{◌∈◌, gathered}
use Rattle.lineage.proofs.Numbers.{total_front, total_same, count_same, bit, bit_le, bit_lt, bit_lt_back}

cond_length : {A : Type 0} (b : Bool) (x : A) (xs : List A) → length (cond b (x ∷ xs) xs) ≡ bit b + length xs
cond_length true x xs = omega arith
cond_length false x xs = omega arith

pub kept_more : {A : Type 0} (p : A → Bool) (x : A) (xs : List A) → length (filter p (x ∷ xs)) ≡ bit (p x) + length (filter p xs)
kept_more p x xs = cond_length (p x) x (filter p xs)

module _ {A : Type 0} (p q : A → Bool) where
  pub kept_le : (xs : List A) → ((x : A) → x ∈ xs → p x ≡ true → q x ≡ true) → length (filter p xs) ≤ length (filter q xs)
  kept_le [] h = omega arith
  kept_le (x ∷ xs) h =
      omega (arith, kept_more p x xs, kept_more q x xs, bit_le (p x) (q x) (h x (inl refl)), kept_le xs (λ y i. h y (inr i)))

  pub kept_lt : (xs : List A) → ((x : A) → x ∈ xs → p x ≡ true → q x ≡ true) → (x : A) → x ∈ xs → p x ≡ false → q x ≡ true → length (filter p xs) < length (filter q xs)
  kept_lt [] h x i e f = absurd i
  kept_lt (y ∷ ys) h x (inl s) e f = omega (
    arith,
    kept_more p y ys,
    kept_more q y ys,
    bit_lt (p y) (q y) (subst (λ y. p y ≡ false) (sym s) e) (subst (λ y. q y ≡ true) (sym s) f),
    kept_le ys (λ z i. h z (inr i)),
  )
  kept_lt (y ∷ ys) h x (inr i) e f =
      omega (arith, kept_more p y ys, kept_more q y ys, bit_le (p y) (q y) (h y (inl refl)), kept_lt ys (λ z j. h z (inr j)) x i e f)

  pub kept_some : (xs : List A) → length (filter p xs) < length (filter q xs) → (x : A) × (x ∈ xs) × (p x ≡ false) × (q x ≡ true)
  kept_some [] h = absurd (omega arith)
  kept_some (x ∷ xs) h = elim (cases_lt (bit (p x)) (bit (q x))) [
    | inl l ↦ let r = bit_lt_back (p x) (q x) l in (x, inl refl, r.0, r.1)
    | inr l ↦ let r = kept_some xs (omega (arith, kept_more p x xs, kept_more q x xs)) in (r.0, inr r.1, r.2, r.3)
  ]

  pub kept_same : (xs : List A) → ((x : A) → x ∈ xs → p x ≡ q x) → length (filter p xs) ≡ length (filter q xs)
  kept_same [] h = refl
  kept_same (x ∷ xs) h = omega (arith, kept_more p x xs, kept_more q x xs, ap bit (h x (inl refl)), kept_same xs (λ y i. h y (inr i)))

pub kept_none : {A : Type 0} (p : A → Bool) (xs : List A) → ((x : A) → x ∈ xs → p x ≡ false) → length (filter p xs) ≡ 0
kept_none p [] h = refl
kept_none p (x ∷ xs) h = omega (arith, kept_more p x xs, ap bit (h x (inl refl)), kept_none p xs (λ y i. h y (inr i)))

pub kept_append : {A : Type 0} (p : A → Bool) (xs ys : List A) → length (filter p (xs ++ ys)) ≡ length (filter p xs) + length (filter p ys)
kept_append p [] ys = omega arith
kept_append p (x ∷ xs) ys = omega (arith, kept_more p x xs, kept_more p x (xs ++ ys), kept_append p xs ys)

pub kept_all : {A : Type 0} (xs : List A) → length (filter (λ x. true) xs) ≡ length xs
kept_all [] = refl
kept_all (x ∷ xs) = omega (arith, kept_all xs)

-- in what is made of the pairs of numbers below n that pass a test
pub kept_map : {A B : Type 0} (t : B → Bool) (f : A → B) (p : A → Bool) (xs : List A) → length (filter t (map f (filter p xs))) ≡ length (filter (λ x. p x && t (f x)) xs)
kept_map t f p [] = refl
kept_map t f p (x ∷ xs) = go (p x) (kept_map t f p xs)
  where
    go : (b : Bool) → length (filter t (map f (filter p xs))) ≡ length (filter (λ x. p x && t (f x)) xs) →
        length (filter t (map f (cond b (x ∷ filter p xs) (filter p xs)))) ≡ length (cond (b && t (f x)) (x ∷ filter (λ x. p x && t (f x)) xs) (filter (λ x. p x && t (f x)) xs))
    go true e = kept_more t (f x) (map f (filter p xs)) ∙ (ap (λ k. bit (t (f x)) + k) e ∙ sym (cond_length (t (f x)) x (filter (λ x. p x && t (f x)) xs)))
    go false e = e

-- how many numbers of a range pass a test
pub kept_counting : (p : ℕ → Bool) (m a : ℕ) → length (filter p (range_with_len a m)) ≡ count m (λ k. p (a + k))
kept_counting p zero a = refl
kept_counting p (suc m) a = omega (
  arith,
  kept_more p a (range_with_len (a + 1) m),
  kept_counting p m (a + 1),
  total_front m (λ k. bit (p (a + k))),
  ap (λ k. bit (p k)) (add-zero a),
  total_same m (λ k. bit (p (a + 1 + k))) (λ k. bit (p (a + suc k))) (λ k l. let e : a + 1 + k ≡ a + suc k = omega arith in ap (λ k. bit (p k)) e),
)

pub kept_those : {B : Type 0} (t : B → Bool) (f : ℕ → B) (n : ℕ) (p : ℕ → Bool) → length (filter t (map f (those n p))) ≡ count n (λ b. p b && t (f b))
kept_those t f n p =
    kept_map t f p (range_with_len 0 n)
    ∙ (kept_counting (λ b. p b && t (f b)) n 0
    ∙ total_same n (λ k. bit (p (0 + k) && t (f (0 + k)))) (λ k. bit (p k && t (f k))) (λ k l. ap (λ k. bit (p k && t (f k))) (zero-add k)))

kept_gathered : {B : Type 0} (t : B → Bool) (f : ℕ → List B) (m a : ℕ) → length (filter t (gathered f (range_with_len a m))) ≡ total m (λ k. length (filter t (f (a + k))))
kept_gathered t f zero a = refl
kept_gathered t f (suc m) a = omega (
  arith,
  kept_append t (f a) (gathered f (range_with_len (a + 1) m)),
  kept_gathered t f m (a + 1),
  total_front m (λ k. length (filter t (f (a + k)))),
  ap (λ k. length (filter t (f k))) (add-zero a),
  total_same m (λ k. length (filter t (f (a + 1 + k)))) (λ k. length (filter t (f (a + suc k)))) (λ k l. let e : a + 1 + k ≡ a + suc k = omega arith in ap (λ k. length (filter t (f k))) e),
)

pub kept_pairs : {B : Type 0} (t : B → Bool) (f : ℕ → ℕ → B) (n : ℕ) (P : ℕ → ℕ → Bool) →
    length (filter t (gathered (λ a. map (f a) (those n (P a))) (range_with_len 0 n))) ≡ total n (λ a. count n (λ b. P a b && t (f a b)))
kept_pairs t f n P =
    kept_gathered t (λ a. map (f a) (those n (P a))) n 0
    ∙ total_same n (λ k. length (filter t (map (f (0 + k)) (those n (P (0 + k)))))) (λ a. count n (λ b. P a b && t (f a b)))
    (λ k l. ap (λ k. length (filter t (map (f k) (those n (P k))))) (zero-add k) ∙ kept_those t (f k) n (P k))

pub and_true : (b : Bool) → (b && true) ≡ b
and_true true = refl
and_true false = refl

pub length_pairs : {B : Type 0} (f : ℕ → ℕ → B) (n : ℕ) (P : ℕ → ℕ → Bool) → length (gathered (λ a. map (f a) (those n (P a))) (range_with_len 0 n)) ≡ total n (λ a. count n (P a))
length_pairs f n P =
    sym (kept_all (gathered (λ a. map (f a) (those n (P a))) (range_with_len 0 n)))
    ∙ (kept_pairs (λ x. true) f n P
    ∙ total_same n (λ a. count n (λ b. P a b && true)) (λ a. count n (P a)) (λ a l. count_same n (λ b. P a b && true) (P a) (λ b m. and_true (P a b))))
