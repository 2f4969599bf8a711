-- Membership in lists, and rising lists: what stands in `rising`, that it rises, that there is one such list, and how long it is. Assumes nothing.
use Rattle.std.proofs.Common.{◌≡◌, ℕ, zero, suc, ◌+◌, ◌<◌, ◌≤◌, Bool, true, false, cond, ltb, ◌⊎◌, List, [], ◌∷◌, ◌++◌, map, length, get_or, filter, sym, refl, ap, ◌∙◌, subst, ap₂, inl, inr, arith}
use Rattle.std.specs.List.{range_with_len, AllByRecursion}
use Rattle.std.proofs.lemmas.Bool.{true≢false, cases_lt, ltb-true, ltb-false, lt-ltb}
use Rattle.std.proofs.ByRecursion.{all_kept_by}
use Rattle.lineage.specs.Lists.{◌∈◌, Distinct, gathered, inserted, sorted}
use Rattle.lineage.specs.Finite.{those}
use Rattle.lineage.proofs.Numbers.{bit}
use Rattle.lineage.proofs.Kept.{kept_more, kept_all}

-- membership
pub in_at : {A : Type 0} (xs : List A) (p : ℕ) (d : A) → p < length xs → get_or xs p d ∈ xs
in_at [] p d l = absurd (omega arith)
in_at (x ∷ xs) zero d l = inl refl
in_at (x ∷ xs) (suc p) d l = inr (in_at xs p d (omega arith))

pub at_in : {A : Type 0} (xs : List A) (x d : A) → x ∈ xs → (p : ℕ) × (p < length xs) × (get_or xs p d ≡ x)
at_in [] x d h = absurd h
at_in (y ∷ ys) x d (inl e) = (0, omega arith, e)
at_in (y ∷ ys) x d (inr h) = let r = at_in ys x d h in let l : r.0 < length ys = r.1 in (suc r.0, omega arith, r.2)

pub in_map : {A B : Type 0} (f : A → B) (xs : List A) (x : A) → x ∈ xs → f x ∈ map f xs
in_map f [] x h = absurd h
in_map f (y ∷ ys) x (inl e) = inl (ap f e)
in_map f (y ∷ ys) x (inr h) = inr (in_map f ys x h)

pub map_in : {A B : Type 0} (f : A → B) (xs : List A) (z : B) → z ∈ map f xs → (x : A) × (x ∈ xs) × (f x ≡ z)
map_in f [] z h = absurd h
map_in f (y ∷ ys) z (inl e) = (y, inl refl, e)
map_in f (y ∷ ys) z (inr h) = let r = map_in f ys z h in (r.0, inr r.1, r.2)

in_left : {A : Type 0} (xs ys : List A) (x : A) → x ∈ xs → x ∈ (xs ++ ys)
in_left [] ys x h = absurd h
in_left (z ∷ zs) ys x (inl e) = inl e
in_left (z ∷ zs) ys x (inr h) = inr (in_left zs ys x h)

in_right : {A : Type 0} (xs ys : List A) (x : A) → x ∈ ys → x ∈ (xs ++ ys)
in_right [] ys x h = h
in_right (z ∷ zs) ys x h = inr (in_right zs ys x h)

append_in : {A : Type 0} (xs ys : List A) (x : A) → x ∈ (xs ++ ys) → (x ∈ xs) ⊎ (x ∈ ys)
append_in [] ys x h = inr h
append_in (z ∷ zs) ys x (inl e) = inl (inl e)
append_in (z ∷ zs) ys x (inr h) = elim (append_in zs ys x h) [ inl k ↦ inl (inr k) | inr k ↦ inr k ]

pub in_gathered : {A B : Type 0} (f : A → List B) (xs : List A) (x : A) (z : B) → x ∈ xs → z ∈ f x → z ∈ gathered f xs
in_gathered f [] x z h k = absurd h
in_gathered f (y ∷ ys) x z (inl e) k = in_left (f y) (gathered f ys) z (subst (λ y. z ∈ f y) (sym e) k)
in_gathered f (y ∷ ys) x z (inr h) k = in_right (f y) (gathered f ys) z (in_gathered f ys x z h k)

pub gathered_in : {A B : Type 0} (f : A → List B) (xs : List A) (z : B) → z ∈ gathered f xs → (x : A) × (x ∈ xs) × (z ∈ f x)
gathered_in f [] z h = absurd h
gathered_in f (y ∷ ys) z h = elim (append_in (f y) (gathered f ys) z h) [
  | inl k ↦ (y, inl refl, k)
  | inr k ↦ let r = gathered_in f ys z k in (r.0, inr r.1, r.2)
]

in_cond : {A : Type 0} (b : Bool) (x z : A) (xs : List A) → z ∈ cond b (x ∷ xs) xs → ((b ≡ true) × (x ≡ z)) ⊎ (z ∈ xs)
in_cond true x z xs (inl e) = inl (refl, e)
in_cond true x z xs (inr h) = inr h
in_cond false x z xs h = inr h

cond_in : {A : Type 0} (b : Bool) (x z : A) (xs : List A) → ((b ≡ true) × (x ≡ z)) ⊎ (z ∈ xs) → z ∈ cond b (x ∷ xs) xs
cond_in true x z xs (inl h) = inl h.1
cond_in true x z xs (inr h) = inr h
cond_in false x z xs (inl h) = absurd (true≢false (sym h.0))
cond_in false x z xs (inr h) = h

pub in_kept : {A : Type 0} (p : A → Bool) (xs : List A) (x : A) → x ∈ xs → p x ≡ true → x ∈ filter p xs
in_kept p [] x h e = absurd h
in_kept p (y ∷ ys) x (inl s) e = cond_in (p y) y x (filter p ys) (inl (subst (λ y. p y ≡ true) (sym s) e, s))
in_kept p (y ∷ ys) x (inr h) e = cond_in (p y) y x (filter p ys) (inr (in_kept p ys x h e))

pub kept_in : {A : Type 0} (p : A → Bool) (xs : List A) (x : A) → x ∈ filter p xs → (x ∈ xs) × (p x ≡ true)
kept_in p [] x h = absurd h
kept_in p (y ∷ ys) x h = elim (in_cond (p y) y x (filter p ys) h) [
  | inl k ↦ (inl k.1, subst (λ y. p y ≡ true) k.1 k.0)
  | inr k ↦ let r = kept_in p ys x k in (inr r.0, r.1)
]

in_counting : (m a k : ℕ) → a ≤ k → k < a + m → k ∈ range_with_len a m
in_counting zero a k h l = absurd (omega arith)
in_counting (suc m) a k h l = elim (cases_lt a k) [
  | inl g ↦ inr (in_counting m (a + 1) k (omega arith) (omega arith))
  | inr g ↦ inl (omega arith)
]

counting_in : (m a k : ℕ) → k ∈ range_with_len a m → (a ≤ k) × (k < a + m)
counting_in zero a k h = absurd h
counting_in (suc m) a k (inl e) = (omega arith, omega arith)
counting_in (suc m) a k (inr h) = let r = counting_in m (a + 1) k h in (omega (arith, r.0), omega (arith, r.1))

pub in_below : (n k : ℕ) → k < n → k ∈ range_with_len 0 n
in_below n k l = in_counting n 0 k (omega arith) (omega arith)

pub below_in : (n k : ℕ) → k ∈ range_with_len 0 n → k < n
below_in n k h = omega (arith, (counting_in n 0 k h).1)

pub in_those : (n : ℕ) (p : ℕ → Bool) (k : ℕ) → k < n → p k ≡ true → k ∈ those n p
in_those n p k l e = in_kept p (range_with_len 0 n) k (in_below n k l) e

pub those_in : (n : ℕ) (p : ℕ → Bool) (k : ℕ) → k ∈ those n p → (k < n) × (p k ≡ true)
those_in n p k h = let r = kept_in p (range_with_len 0 n) k h in (below_in n k r.0, r.1)

-- a strict order, as a test
pub record Strict {A : Type 0} (below : A → A → Bool) : Type 0 where
  pub never_self : (x : A) → below x x ≡ true → ⊥
  pub trans : (x y z : A) → below x y ≡ true → below y z ≡ true → below x z ≡ true
  pub equal : (x y : A) → below x y ≡ false → below y x ≡ false → x ≡ y

-- each is below all that come after it
abbrev pub Rises : {A : Type 0} → (A → A → Bool) → List A → Type 0
Rises below [] = Unit {0}
Rises below (x ∷ xs) = AllByRecursion (λ y. below x y ≡ true) xs × Rises below xs

pub all_in : {A : Type 0} (P : A → Type 0) (xs : List A) (x : A) → AllByRecursion P xs → x ∈ xs → P x
all_in P [] x a h = absurd h
all_in P (y ∷ ys) x a (inl e) = subst P e a.0
all_in P (y ∷ ys) x a (inr h) = all_in P ys x a.1 h

-- what stands in `rising`
module _ {A : Type 0} (below : A → A → Bool) (S : Strict below) where
  in_inserted : (x : A) (xs : List A) (z : A) → (x ≡ z) ⊎ (z ∈ xs) → z ∈ inserted below x xs
  in_inserted x [] z h = h
  in_inserted x (y ∷ ys) z h = go (below x y) (below y x) refl refl (in_inserted x ys z) h
    where
      go : (b c : Bool) → below x y ≡ b → below y x ≡ c → ((x ≡ z) ⊎ (z ∈ ys) → z ∈ inserted below x ys) → (x ≡ z) ⊎ ((y ≡ z) ⊎ (z ∈ ys)) → z ∈ cond b (x ∷ y ∷ ys) (cond c (y ∷ inserted below x ys) (y ∷ ys))
      go true c e f more h = h
      go false true e f more (inl s) = inr (more (inl s))
      go false true e f more (inr (inl s)) = inl s
      go false true e f more (inr (inr s)) = inr (more (inr s))
      go false false e f more (inl s) = inl (sym (S.equal x y e f) ∙ s)
      go false false e f more (inr s) = s

  inserted_in : (x : A) (xs : List A) (z : A) → z ∈ inserted below x xs → (x ≡ z) ⊎ (z ∈ xs)
  inserted_in x [] z h = h
  inserted_in x (y ∷ ys) z h = go (below x y) (below y x) (inserted_in x ys z) h
    where
      go : (b c : Bool) → (z ∈ inserted below x ys → (x ≡ z) ⊎ (z ∈ ys)) → z ∈ cond b (x ∷ y ∷ ys) (cond c (y ∷ inserted below x ys) (y ∷ ys)) → (x ≡ z) ⊎ ((y ≡ z) ⊎ (z ∈ ys))
      go true c less h = h
      go false true less (inl s) = inr (inl s)
      go false true less (inr s) = elim (less s) [ inl t ↦ inl t | inr t ↦ inr (inr t) ]
      go false false less h = inr h

  pub in_sorted : (xs : List A) (z : A) → z ∈ xs → z ∈ sorted below xs
  in_sorted [] z h = h
  in_sorted (x ∷ xs) z (inl e) = in_inserted x (sorted below xs) z (inl e)
  in_sorted (x ∷ xs) z (inr h) = in_inserted x (sorted below xs) z (inr (in_sorted xs z h))

  pub sorted_in : (xs : List A) (z : A) → z ∈ sorted below xs → z ∈ xs
  sorted_in [] z h = h
  sorted_in (x ∷ xs) z h = elim (inserted_in x (sorted below xs) z h) [ inl e ↦ inl e | inr k ↦ inr (sorted_in xs z k) ]

  -- it rises
  all_inserted : (w x : A) (xs : List A) → below w x ≡ true → AllByRecursion (λ y. below w y ≡ true) xs → AllByRecursion (λ y. below w y ≡ true) (inserted below x xs)
  all_inserted w x [] e a = (e, tt)
  all_inserted w x (y ∷ ys) e a = go (below x y) (below y x) (all_inserted w x ys e a.1)
    where
      go : (b c : Bool) → AllByRecursion (λ y. below w y ≡ true) (inserted below x ys) → AllByRecursion (λ y. below w y ≡ true) (cond b (x ∷ y ∷ ys) (cond c (y ∷ inserted below x ys) (y ∷ ys)))
      go true c more = (e, a)
      go false true more = (a.0, more)
      go false false more = a

  all_below : (x y : A) (ys : List A) → below x y ≡ true → AllByRecursion (λ z. below y z ≡ true) ys → AllByRecursion (λ z. below x z ≡ true) ys
  all_below x y [] e a = tt
  all_below x y (z ∷ zs) e a = (S.trans x y z e a.0, all_below x y zs e a.1)

  rises_inserted : (x : A) (xs : List A) → Rises below xs → Rises below (inserted below x xs)
  rises_inserted x [] r = (tt, tt)
  rises_inserted x (y ∷ ys) r = go (below x y) (below y x) refl refl (rises_inserted x ys r.1)
    where
      go : (b c : Bool) → below x y ≡ b → below y x ≡ c → Rises below (inserted below x ys) → Rises below (cond b (x ∷ y ∷ ys) (cond c (y ∷ inserted below x ys) (y ∷ ys)))
      go true c e f more = ((e, all_below x y ys e r.0), r)
      go false true e f more = (all_inserted y x ys f r.0, more)
      go false false e f more = r

  pub sorted_rises : (xs : List A) → Rises below (sorted below xs)
  sorted_rises [] = tt
  sorted_rises (x ∷ xs) = rises_inserted x (sorted below xs) (sorted_rises xs)

  -- by places
  pub rises_at : (xs : List A) (d : A) → Rises below xs → (p q : ℕ) → p < q → q < length xs → below (get_or xs p d) (get_or xs q d) ≡ true
  rises_at [] d r p q h l = absurd (omega arith)
  rises_at (x ∷ xs) d r p zero h l = absurd (omega arith)
  rises_at (x ∷ xs) d r zero (suc q) h l = all_in (λ y. below x y ≡ true) xs (get_or xs q d) r.0 (in_at xs q d (omega arith))
  rises_at (x ∷ xs) d r (suc p) (suc q) h l = rises_at xs d r.1 p q (omega arith) (omega arith)

  pub rises_once : (xs : List A) (d : A) → Rises below xs → (p q : ℕ) → p < length xs → q < length xs → get_or xs p d ≡ get_or xs q d → p ≡ q
  rises_once xs d r p q l m e = elim (cases_lt p q) [
    | inl h ↦ absurd (S.never_self (get_or xs q d) (subst (λ x. below x (get_or xs q d) ≡ true) e (rises_at xs d r p q h m)))
    | inr h ↦ elim (cases_lt q p) [
      | inl g ↦ absurd (S.never_self (get_or xs q d) (subst (λ x. below (get_or xs q d) x ≡ true) e (rises_at xs d r q p g l)))
      | inr g ↦ omega arith
    ]
  ]

  -- two rising lists with the same elements are one list
  tail_same : (x : A) (xs ys : List A) → AllByRecursion (λ z. below x z ≡ true) xs → ((z : A) → z ∈ (x ∷ xs) → z ∈ (x ∷ ys)) → (z : A) → z ∈ xs → z ∈ ys
  tail_same x xs ys a f z h = elim (f z (inr h)) [
    | inl e ↦ absurd (S.never_self x (subst (λ w. below x w ≡ true) (sym e) (all_in (λ z. below x z ≡ true) xs z a h)))
    | inr k ↦ k
  ]

  heads_same : (x y : A) (xs ys : List A) → Rises below (x ∷ xs) → Rises below (y ∷ ys) → x ∈ (y ∷ ys) → y ∈ (x ∷ xs) → x ≡ y
  heads_same x y xs ys r s (inl e) k = sym e
  heads_same x y xs ys r s (inr h) (inl e) = e
  heads_same x y xs ys r s (inr h) (inr k) =
      absurd (S.never_self x (S.trans x y x (all_in (λ z. below x z ≡ true) xs y r.0 k) (all_in (λ z. below y z ≡ true) ys x s.0 h)))

  pub rises_unique : (xs ys : List A) → Rises below xs → Rises below ys → ((z : A) → z ∈ xs → z ∈ ys) → ((z : A) → z ∈ ys → z ∈ xs) → xs ≡ ys
  rises_unique [] [] r s f g = refl
  rises_unique [] (y ∷ ys) r s f g = absurd (g y (inl refl))
  rises_unique (x ∷ xs) [] r s f g = absurd (f x (inl refl))
  rises_unique (x ∷ xs) (y ∷ ys) r s f g =
      let e : x ≡ y = heads_same x y xs ys r s (f x (inl refl)) (g y (inl refl)) in
      let f' : (z : A) → z ∈ (x ∷ xs) → z ∈ (x ∷ ys) = λ z h. subst (λ w. z ∈ (w ∷ ys)) (sym e) (f z h) in
      let g' : (z : A) → z ∈ (x ∷ ys) → z ∈ (x ∷ xs) = λ z h. g z (subst (λ w. z ∈ (w ∷ ys)) e h) in
      let s' : AllByRecursion (λ z. below x z ≡ true) ys = subst (λ w. AllByRecursion (λ z. below w z ≡ true) ys) (sym e) s.0 in
      ap₂ (λ z zs. z ∷ zs) e (rises_unique xs ys r.1 s.1 (tail_same x xs ys r.0 f') (tail_same x ys xs s' g'))

  pub sorted_unique : (xs ys : List A) → ((z : A) → z ∈ xs → z ∈ ys) → ((z : A) → z ∈ ys → z ∈ xs) → sorted below xs ≡ sorted below ys
  sorted_unique xs ys f g = rises_unique (sorted below xs) (sorted below ys) (sorted_rises xs) (sorted_rises ys)
      (λ z h. in_sorted ys z (f z (sorted_in xs z h))) (λ z h. in_sorted xs z (g z (sorted_in ys z h)))

  -- its length
  inserted_length : (x : A) (xs : List A) → length (inserted below x xs) ≤ suc (length xs)
  inserted_length x [] = omega arith
  inserted_length x (y ∷ ys) = go (below x y) (below y x) (inserted_length x ys)
    where
      go : (b c : Bool) → length (inserted below x ys) ≤ suc (length ys) → length (cond b (x ∷ y ∷ ys) (cond c (y ∷ inserted below x ys) (y ∷ ys))) ≤ suc (suc (length ys))
      go true c more = omega arith
      go false true more = omega arith
      go false false more = omega arith

  pub sorted_length : (xs : List A) → length (sorted below xs) ≤ length xs
  sorted_length [] = omega arith
  sorted_length (x ∷ xs) = omega (arith, inserted_length x (sorted below xs), sorted_length xs)

-- numbers
pub strict_ltb : Strict ltb
strict_ltb = record {
  never_self = λ x e. omega (arith, ltb-true x x e);
  trans = λ x y z e f. lt-ltb x z (omega (arith, ltb-true x y e, ltb-true y z f));
  equal = λ x y e f. omega (arith, ltb-false x y e, ltb-false y x f);
}

counting_above : (m a k : ℕ) → k < a → AllByRecursion (λ y. ltb k y ≡ true) (range_with_len a m)
counting_above zero a k l = tt
counting_above (suc m) a k l = (lt-ltb k a l, counting_above m (a + 1) k (omega arith))

pub kept_rises : {A : Type 0} (below : A → A → Bool) (p : A → Bool) (xs : List A) → Rises below xs → Rises below (filter p xs)
kept_rises below p [] r = tt
kept_rises below p (x ∷ xs) r = go (p x) (kept_rises below p xs r.1)
  where
    go : (b : Bool) → Rises below (filter p xs) → Rises below (cond b (x ∷ filter p xs) (filter p xs))
    go true more = (all_kept_by p (λ y. below x y ≡ true) xs r.0, more)
    go false more = more

pub counting_rises : (m a : ℕ) → Rises ltb (range_with_len a m)
counting_rises zero a = tt
counting_rises (suc m) a = (counting_above m (a + 1) a (omega arith), counting_rises m (a + 1))

pub those_rises : (n : ℕ) (p : ℕ → Bool) → Rises ltb (those n p)
those_rises n p = kept_rises ltb p (range_with_len 0 n) (counting_rises n 0)

-- lists in which no element stands twice
pub rises_distinct : {A : Type 0} (below : A → A → Bool) → Strict below → (xs : List A) → Rises below xs → Distinct xs
rises_distinct below S [] r = tt
rises_distinct below S (x ∷ xs) r = (λ h. S.never_self x (all_in (λ y. below x y ≡ true) xs x r.0 h), rises_distinct below S xs r.1)

distinct_append : {A : Type 0} (xs ys : List A) → Distinct xs → Distinct ys → ((z : A) → z ∈ xs → z ∈ ys → ⊥) → Distinct (xs ++ ys)
distinct_append [] ys d e h = e
distinct_append (x ∷ xs) ys d e h = (
  λ i. elim (append_in xs ys x i) [ inl j ↦ d.0 j | inr j ↦ h x (inl refl) j ],
  distinct_append xs ys d.1 e (λ z i j. h z (inr i) j),
)

pub distinct_map : {A B : Type 0} (f : A → B) (xs : List A) → ((x y : A) → x ∈ xs → y ∈ xs → f x ≡ f y → x ≡ y) → Distinct xs → Distinct (map f xs)
distinct_map f [] h d = tt
distinct_map f (x ∷ xs) h d = (
  λ i. let r = map_in f xs (f x) i in d.0 (subst (λ y. y ∈ xs) (h r.0 x (inr r.1) (inl refl) r.2) r.1),
  distinct_map f xs (λ y z i j. h y z (inr i) (inr j)) d.1,
)

pub distinct_gathered : {A B : Type 0} (f : A → List B) (xs : List A) → ((x : A) → x ∈ xs → Distinct (f x)) → ((x y : A) (z : B) → x ∈ xs → y ∈ xs → z ∈ f x → z ∈ f y → x ≡ y) →
    Distinct xs → Distinct (gathered f xs)
distinct_gathered f [] each apart d = tt
distinct_gathered f (x ∷ xs) each apart d =
    distinct_append (f x) (gathered f xs) (each x (inl refl))
    (distinct_gathered f xs (λ y i. each y (inr i)) (λ y w z i j. apart y w z (inr i) (inr j)) d.1)
    (λ z i j. let r = gathered_in f xs z j in d.0 (subst (λ y. y ∈ xs) (apart r.0 x z (inr r.1) (inl refl) r.2 i) r.1))

-- `rising` drops none of them
module _ {A : Type 0} (below : A → A → Bool) (S : Strict below) (test : A → Bool) where
  inserted_kept : (x : A) (xs : List A) → (x ∈ xs → ⊥) → length (filter test (inserted below x xs)) ≡ bit (test x) + length (filter test xs)
  inserted_kept x [] h = kept_more test x []
  inserted_kept x (y ∷ ys) h = go (below x y) (below y x) refl refl (inserted_kept x ys (λ i. h (inr i)))
    where
      go : (b c : Bool) → below x y ≡ b → below y x ≡ c → length (filter test (inserted below x ys)) ≡ bit (test x) + length (filter test ys) →
          length (filter test (cond b (x ∷ y ∷ ys) (cond c (y ∷ inserted below x ys) (y ∷ ys)))) ≡ bit (test x) + length (filter test (y ∷ ys))
      go true c e f more = kept_more test x (y ∷ ys)
      go false true e f more = omega (arith, kept_more test y (inserted below x ys), kept_more test y ys)
      go false false e f more = absurd (h (inl (sym (S.equal x y e f))))

  pub sorted_kept : (xs : List A) → Distinct xs → length (filter test (sorted below xs)) ≡ length (filter test xs)
  sorted_kept [] d = refl
  sorted_kept (x ∷ xs) d =
      omega (arith, inserted_kept x (sorted below xs) (λ i. d.0 (sorted_in below S xs x i)), sorted_kept xs d.1, kept_more test x xs)

-- a list without repetition is as long as the rising list with the same elements
pub distinct_length : {A : Type 0} (below : A → A → Bool) → Strict below → (xs ys : List A) → Distinct xs → Rises below ys → ((z : A) → z ∈ xs → z ∈ ys) → ((z : A) → z ∈ ys → z ∈ xs) → length xs ≡ length ys
distinct_length below S xs ys d r f g =
    sym (kept_all xs)
    ∙ (sym (sorted_kept below S (λ x. true) xs d)
    ∙ (kept_all (sorted below xs)
    ∙ ap length (rises_unique below S (sorted below xs) ys (sorted_rises below S xs) r (λ z h. f z (sorted_in below S xs z h)) (λ z h. in_sorted below S xs z (g z h)))))
