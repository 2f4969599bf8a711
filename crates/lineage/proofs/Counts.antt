-- N over any list of links: what it counts, when two counts agree, and when one is more than another; a row of the matrix. Assumes nothing.
use Rattle.std.proofs.Common.{◌≡◌, ℕ, ◌<◌, ◌≤◌, Bool, true, ◌&&◌, ltb, leb, ◌⊎◌, ◌↔◌, List, length, get_or, Some, None, filter, Option, sym, refl, ◌∙◌, inl, inr, arith}
use Rattle.std.proofs.lemmas.Bool.{cases_lt, true≢false, and_parts, and_from, and_left, and_right, cond-true, cond-false, leb-true, leb-false, le-leb, lt-ltb, le-ltb}
use Rattle.lineage.specs.Lists.{◌∈◌, Distinct, place}
use Rattle.lineage.specs.Closure.{Link, arrow, covers, below, InT, T, N, X, Y, matrix, cell}
use Rattle.lineage.specs.Theorems.{CountsAreExact}
use Rattle.lineage.proofs.Numbers.{refuted, same_tests}
use Rattle.lineage.proofs.Rising.{at_in, in_kept, kept_in, kept_rises, distinct_length}
use Rattle.lineage.proofs.Kept.{kept_lt, kept_some, kept_same, kept_none}
use Rattle.lineage.proofs.Closure.{covers_parts, covers_from, strict_below, T_least, least_T, T_rises, in_X, X_rises}
use Rattle.lineage.proofs.Places.{Placed, place_is, rises_le}

-- the member l is counted in N x y
pub record Counted (x y : ℕ) (l : Link) : Type 0 where
  pub from_x : x ≤ l.from
  pub lo : l.start ≤ y
  pub hi : y < l.end

-- the test that N counts by
abbrev pub counted : ℕ → ℕ → Link → Bool
counted x y l = leb x l.from && covers l y

pub counted_parts : (x y : ℕ) (l : Link) → counted x y l ≡ true → Counted x y l
counted_parts x y l e =
    let p = and_parts (leb x l.from) (covers l y) e in let q = covers_parts l y p.1 in
    record { from_x = leb-true x l.from p.0; lo = q.0; hi = q.1 }

pub counted_from : (x y : ℕ) (l : Link) → Counted x y l → counted x y l ≡ true
counted_from x y l c = and_from (leb x l.from) (covers l y) (le-leb x l.from c.from_x) (covers_from l y c.lo c.hi)

module _ (L : List Link) where
  pub N_same : (x y x' y' : ℕ) → ((l : Link) → l ∈ T L → Counted x y l → Counted x' y' l) → ((l : Link) → l ∈ T L → Counted x' y' l → Counted x y l) → N L x y ≡ N L x' y'
  unfolding N
  N_same x y x' y' f g = kept_same (counted x y) (counted x' y') (T L) (λ l i. same_tests (counted x y l) (counted x' y' l)
      (λ e. counted_from x' y' l (f l i (counted_parts x y l e)))
      (λ e. counted_from x y l (g l i (counted_parts x' y' l e))))

  pub N_none : (x y : ℕ) → ((l : Link) → l ∈ T L → Counted x y l → ⊥) → N L x y ≡ 0
  unfolding N
  N_none x y f = kept_none (counted x y) (T L) (λ l i. refuted (counted x y l) (λ e. f l i (counted_parts x y l e)))

  -- more from x than from x': there is a member between
  pub N_some : (x x' y : ℕ) → N L x' y < N L x y → (l : Link) × (l ∈ T L) × Counted x y l × (l.from < x')
  unfolding N
  N_some x x' y h =
      let s = kept_some (counted x' y) (counted x y) (T L) h in
      let l = s.0 in
      let c = counted_parts x y l s.3 in (
        l,
        s.1,
        c,
        elim (cases_lt l.from x') [
          | inl k ↦ k
          | inr k ↦ absurd (true≢false (sym (counted_from x' y l (record { from_x = k; lo = c.lo; hi = c.hi })) ∙ s.2))
        ],
      )

  pub N_more : (x x' y : ℕ) (l : Link) → x ≤ x' → l ∈ T L → Counted x y l → l.from < x' → N L x' y < N L x y
  unfolding N
  N_more x x' y l h i c s = kept_lt (counted x' y) (counted x y) (T L)
      (λ m j e. let d = counted_parts x' y m e in let f = d.from_x in counted_from x y m (record { from_x = omega arith; lo = d.lo; hi = d.hi }))
      l i
      (refuted (counted x' y l) (λ e. let f = (counted_parts x' y l e).from_x in omega arith))
      (counted_from x y l c)

  -- in the matrix
  pub matrix_in : (p q : ℕ) → p < length (X L) → q < length (Y L) → matrix L p q ≡ N L (get_or (X L) p 0) (get_or (Y L) q 0)
  unfolding matrix
  matrix_in p q l m = cond-true (ltb p (length (X L)) && ltb q (length (Y L))) (N L (get_or (X L) p 0) (get_or (Y L) q 0)) 0
      (and_from (ltb p (length (X L))) (ltb q (length (Y L))) (lt-ltb p (length (X L)) l) (lt-ltb q (length (Y L)) m))

  member_in_X : (l : Link) → l ∈ T L → (i : ℕ) × (i < length (X L)) × (get_or (X L) i 0 ≡ l.from)
  member_in_X l h = at_in (X L) l.from 0 (in_X L (T_least L l.from l.start l.end h))

  -- a row: N from x on is N from the least element of X from x on
  row : (x q : ℕ) → q < length (Y L) → (o : Option ℕ) → Placed (leb x) (X L) o → cell L o (Some q) ≡ N L x (get_or (Y L) q 0)
  unfolding cell
  row x q m None h = sym (N_none x (get_or (Y L) q 0) (λ l j c.
      let i = member_in_X l j in
      let f = c.from_x in let e = i.2 in
      omega (arith, leb-false x (get_or (X L) i.0 0) (h i.0 i.1))))
  row x q m (Some p) h =
      matrix_in p q h.0 m
      ∙ N_same (get_or (X L) p 0) (get_or (Y L) q 0) x (get_or (Y L) q 0)
      (λ l j c. let f = c.from_x in record { from_x = omega (arith, leb-true x (get_or (X L) p 0) h.1); lo = c.lo; hi = c.hi })
      (λ l j c.
      let i = member_in_X l j in
      let f = c.from_x in let e = i.2 in
      record {
        lo = c.lo;
        hi = c.hi;
        from_x = elim (cases_lt i.0 p) [
          | inl k ↦ absurd (omega (arith, leb-false x (get_or (X L) i.0 0) (h.2 i.0 k)))
          | inr k ↦ omega (arith, rises_le (X L) (X_rises L) p i.0 k i.1)
        ];
      })

  pub cell_row : (x q : ℕ) → q < length (Y L) → cell L (place (leb x) (X L)) (Some q) ≡ N L x (get_or (Y L) q 0)
  cell_row x q m = row x q m (place (leb x) (X L)) (place_is (leb x) (X L))

  pub no_column : (o : Option ℕ) → cell L o None ≡ 0
  unfolding cell
  no_column None = refl
  no_column (Some p) = refl

  -- what N counts
  pub N_number : (x y : ℕ) (ms : List Link) → Distinct ms → ((i j k : ℕ) → (arrow i j k ∈ ms) ↔ (InT L i j k × (x ≤ i) × (j ≤ y) × (y < k))) → N L x y ≡ length ms
  unfolding N
  N_number x y ms d h = sym (distinct_length below strict_below ms (filter (counted x y) (T L)) d (kept_rises below (counted x y) (T L) (T_rises L))
      (λ l i. let r = (h l.from l.start l.end).0 i in
      in_kept (counted x y) (T L) l (least_T L r.0) (counted_from x y l (record { from_x = r.1; lo = r.2; hi = r.3 })))
      (λ l i. let r = kept_in (counted x y) (T L) l i in let c = counted_parts x y l r.1 in
      (h l.from l.start l.end).1 (T_least L l.from l.start l.end r.0, c.from_x, c.lo, c.hi)))

  pub matrix_out : (p q : ℕ) → (length (X L) ≤ p) ⊎ (length (Y L) ≤ q) → matrix L p q ≡ 0
  unfolding matrix
  matrix_out p q (inl h) = cond-false (ltb p (length (X L)) && ltb q (length (Y L))) (N L (get_or (X L) p 0) (get_or (Y L) q 0)) 0
      (and_left (ltb p (length (X L))) (ltb q (length (Y L))) (le-ltb p (length (X L)) h))
  matrix_out p q (inr h) = cond-false (ltb p (length (X L)) && ltb q (length (Y L))) (N L (get_or (X L) p 0) (get_or (Y L) q 0)) 0
      (and_right (ltb p (length (X L))) (ltb q (length (Y L))) (le-ltb q (length (Y L)) h))

  pub no_row : (o : Option ℕ) → cell L None o ≡ 0
  unfolding cell
  no_row o = refl

  pub cell_at : (p q : ℕ) → cell L (Some p) (Some q) ≡ matrix L p q
  unfolding cell
  cell_at p q = refl

  pub counts_exact : CountsAreExact L
  counts_exact = record { N_exact = N_number; cells = matrix_in; outside = matrix_out; at_places = cell_at; missing = λ o. (no_row o, no_column o) }
