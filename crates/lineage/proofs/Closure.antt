-- T of any list of links: what is computed is the least set, rising; X and Y are its two sides. Assumes nothing.
use Rattle.std.proofs.Common.{◌≡◌, ℕ, ◌<◌, ◌≤◌, Bool, true, false, ◌&&◌, ◌||◌, eqb, ltb, leb, ◌⊎◌, List, [], ◌∷◌, ◌++◌, map, length, get_or, filter, sym, refl, ap, ◌∙◌, subst, inl, inr, arith}
use lib.ListN.{length-map}
use Rattle.std.specs.List.{range_with_len, AllByRecursion}
use Rattle.std.proofs.ByRecursion.{All-append, All-map, All-weaker}
use Rattle.std.proofs.lemmas.Bool.{true≢false, and_parts, and_from, or_cases, or_left, or_right, ltb-true, lt-ltb, leb-true, le-leb, eqb-true, eq-eqb}
use Rattle.lineage.specs.Finite.{Chain, none, step, total, count, those, Within}
use Rattle.lineage.specs.Lists.{◌∈◌, gathered, sorted}
use Rattle.lineage.specs.Closure.{Link, arrow, covers, below, InT, linked, joined, listed, at, onward, reaches, spanned, T, X, Y}
use Rattle.lineage.specs.Theorems.{TIsLeast, XAndYAreExact}
use Rattle.lineage.proofs.Reach.{chain_trans, via_sound, via_whole}
use Rattle.lineage.proofs.Kept.{length_pairs}
use Rattle.lineage.proofs.Rising.{in_at, at_in, in_map, map_in, in_gathered, gathered_in, in_below, below_in, in_those, those_in, Strict, Rises, in_sorted, sorted_in, sorted_rises, rises_at, rises_once, rises_unique, sorted_unique, sorted_length, kept_rises, all_in, strict_ltb}

pub link_path : (l m : Link) → l.from ≡ m.from → l.start ≡ m.start → l.end ≡ m.end → l ≡ m
link_path l m e f g = λ i. record { from = e i; start = f i; end = g i }

pub covers_parts : (l : Link) (y : ℕ) → covers l y ≡ true → (l.start ≤ y) × (y < l.end)
covers_parts l y e = let p = and_parts (leb l.start y) (ltb y l.end) e in (leb-true l.start y p.0, ltb-true y l.end p.1)

pub covers_from : (l : Link) (y : ℕ) → l.start ≤ y → y < l.end → covers l y ≡ true
covers_from l y h k = and_from (leb l.start y) (ltb y l.end) (le-leb l.start y h) (lt-ltb y l.end k)

-- the order of links is strict
abbrev Ahead : Link → Link → Type 0
Ahead l m = (l.from < m.from) ⊎ ((l.from ≡ m.from) × ((l.start < m.start) ⊎ ((l.start ≡ m.start) × (l.end < m.end))))

below_parts : (l m : Link) → below l m ≡ true → Ahead l m
below_parts l m e = elim (or_cases (ltb l.from m.from) (eqb l.from m.from && (ltb l.start m.start || (eqb l.start m.start && ltb l.end m.end))) e) [
  | inl h ↦ inl (ltb-true l.from m.from h)
  | inr h ↦
      let p = and_parts (eqb l.from m.from) (ltb l.start m.start || (eqb l.start m.start && ltb l.end m.end)) h in
      inr (
        eqb-true l.from m.from p.0,
        elim (or_cases (ltb l.start m.start) (eqb l.start m.start && ltb l.end m.end) p.1) [
          | inl k ↦ inl (ltb-true l.start m.start k)
          | inr k ↦ let q = and_parts (eqb l.start m.start) (ltb l.end m.end) k in
              inr (eqb-true l.start m.start q.0, ltb-true l.end m.end q.1)
        ],
      )
]

below_from : (l m : Link) → Ahead l m → below l m ≡ true
below_from l m (inl h) = or_left (ltb l.from m.from) (eqb l.from m.from && (ltb l.start m.start || (eqb l.start m.start && ltb l.end m.end))) (lt-ltb l.from m.from h)
below_from l m (inr h) =
    or_right (ltb l.from m.from) (eqb l.from m.from && (ltb l.start m.start || (eqb l.start m.start && ltb l.end m.end)))
    (and_from (eqb l.from m.from) (ltb l.start m.start || (eqb l.start m.start && ltb l.end m.end))
    (eq-eqb l.from m.from h.0)
    (elim h.1 [
      | inl k ↦ or_left (ltb l.start m.start) (eqb l.start m.start && ltb l.end m.end) (lt-ltb l.start m.start k)
      | inr k ↦ or_right (ltb l.start m.start) (eqb l.start m.start && ltb l.end m.end)
          (and_from (eqb l.start m.start) (ltb l.end m.end) (eq-eqb l.start m.start k.0) (lt-ltb l.end m.end k.1))
    ]))

ahead_trans : (x y z : Link) → Ahead x y → Ahead y z → Ahead x z
ahead_trans x y z (inl a) (inl b) = inl (omega arith)
ahead_trans x y z (inl a) (inr b) = inl (omega (arith, b.0))
ahead_trans x y z (inr a) (inl b) = inl (omega (arith, a.0))
ahead_trans x y z (inr a) (inr b) = inr (a.0 ∙ b.0, go a.1 b.1)
  where
    go : (x.start < y.start) ⊎ ((x.start ≡ y.start) × (x.end < y.end)) → (y.start < z.start) ⊎ ((y.start ≡ z.start) × (y.end < z.end)) →
        (x.start < z.start) ⊎ ((x.start ≡ z.start) × (x.end < z.end))
    go (inl c) (inl d) = inl (omega arith)
    go (inl c) (inr d) = inl (omega (arith, d.0))
    go (inr c) (inl d) = inl (omega (arith, c.0))
    go (inr c) (inr d) = inr (c.0 ∙ d.0, omega (arith, c.1, d.1))

pub strict_below : Strict below
strict_below = record {
  never_self = λ x e. let h = below_parts x x e in omega arith;
  trans = λ x y z e f. below_from x z (ahead_trans x y z (below_parts x y e) (below_parts y z f));
  equal = same;
}
  where
    not_ahead : (x y : Link) → below x y ≡ false → Ahead x y → ⊥
    not_ahead x y e h = true≢false (sym (below_from x y h) ∙ e)

    same : (x y : Link) → below x y ≡ false → below y x ≡ false → x ≡ y
    same x y e f =
        let a : x.from < y.from → ⊥ = λ h. not_ahead x y e (inl h) in
        let b : y.from < x.from → ⊥ = λ h. not_ahead y x f (inl h) in
        let i : x.from ≡ y.from = omega arith in
        let c : x.start < y.start → ⊥ = λ h. not_ahead x y e (inr (i, inl h)) in
        let d : y.start < x.start → ⊥ = λ h. not_ahead y x f (inr (sym i, inl h)) in
        let j : x.start ≡ y.start = omega arith in
        let g : x.end < y.end → ⊥ = λ h. not_ahead x y e (inr (i, inr (j, h))) in
        let k : y.end < x.end → ⊥ = λ h. not_ahead y x f (inr (sym i, inr (sym j, h))) in
        link_path x y i j (omega arith)

-- what `listed` holds
pub in_listed : (n : ℕ) (P : ℕ → ℕ → Bool) (f : ℕ → ℕ → Link) (a b : ℕ) → a < n → b < n → P a b ≡ true → f a b ∈ listed n P f
in_listed n P f a b l m e =
    in_sorted below strict_below (gathered (λ a. map (f a) (those n (P a))) (range_with_len 0 n)) (f a b)
    (in_gathered (λ a. map (f a) (those n (P a))) (range_with_len 0 n) a (f a b) (in_below n a l) (in_map (f a) (those n (P a)) b (in_those n (P a) b m e)))

pub listed_in : (n : ℕ) (P : ℕ → ℕ → Bool) (f : ℕ → ℕ → Link) (l : Link) → l ∈ listed n P f → (a : ℕ) × (b : ℕ) × (a < n) × (b < n) × (P a b ≡ true) × (f a b ≡ l)
listed_in n P f l h =
    let x = gathered_in (λ a. map (f a) (those n (P a))) (range_with_len 0 n) l (sorted_in below strict_below (gathered (λ a. map (f a) (those n (P a))) (range_with_len 0 n)) l h) in
    let y = map_in (f x.0) (those n (P x.0)) l x.2 in
    let z = those_in n (P x.0) y.0 y.1 in
    (x.0, y.0, below_in n x.0 x.1, z.0, z.1, y.2)

pub listed_rises : (n : ℕ) (P : ℕ → ℕ → Bool) (f : ℕ → ℕ → Link) → Rises below (listed n P f)
listed_rises n P f = sorted_rises below strict_below (gathered (λ a. map (f a) (those n (P a))) (range_with_len 0 n))

pub listed_few : (n : ℕ) (P : ℕ → ℕ → Bool) (f : ℕ → ℕ → Link) → length (listed n P f) ≤ total n (λ a. count n (P a))
listed_few n P f = omega (arith, sorted_length below strict_below (gathered (λ a. map (f a) (those n (P a))) (range_with_len 0 n)), length_pairs f n P)

module _ (L : List Link) where
  pub onward_parts : (p q : ℕ) → onward L p q ≡ true → (p < length L) × (q < length L) × ((at L p).start ≤ (at L q).from) × ((at L q).from < (at L p).end)
  unfolding onward
  onward_parts p q e =
      let a = and_parts (ltb p (length L) && ltb q (length L)) (covers (at L p) (at L q).from) e in
      let b = and_parts (ltb p (length L)) (ltb q (length L)) a.0 in
      let c = covers_parts (at L p) (at L q).from a.1 in
      (ltb-true p (length L) b.0, ltb-true q (length L) b.1, c.0, c.1)

  pub onward_from : (p q : ℕ) → p < length L → q < length L → (at L p).start ≤ (at L q).from → (at L q).from < (at L p).end → onward L p q ≡ true
  unfolding onward
  onward_from p q l m h k =
      and_from (ltb p (length L) && ltb q (length L)) (covers (at L p) (at L q).from)
      (and_from (ltb p (length L)) (ltb q (length L)) (lt-ltb p (length L) l) (lt-ltb q (length L) m))
      (covers_from (at L p) (at L q).from h k)

  pub onward_within : Within (length L) (onward L)
  onward_within p q e = let r = onward_parts p q e in (r.0, r.1)

  -- a member of T: a link at p that reaches one at q by going on
  pub record Road (i j k : ℕ) : Type 0 where
    pub p : ℕ
    pub q : ℕ
    pub p_in : p < length L
    pub q_in : q < length L
    pub chain : Chain (onward L) p q
    pub i_is : (at L p).from ≡ i
    pub j_is : (at L q).start ≡ j
    pub k_is : (at L q).end ≡ k

  pub in_T : {i j k : ℕ} → Road i j k → arrow i j k ∈ T L
  unfolding T
  in_T {i} {j} {k} r =
      subst (λ l. l ∈ T L) (link_path (spanned L r.p r.q) (arrow i j k) r.i_is r.j_is r.k_is)
      (in_listed (length L) (reaches L) (spanned L) r.p r.q r.p_in r.q_in (via_whole (onward L) (length L) onward_within r.chain))

  pub T_in : (i j k : ℕ) → arrow i j k ∈ T L → Road i j k
  unfolding T
  T_in i j k h =
      let x = listed_in (length L) (reaches L) (spanned L) (arrow i j k) h in
      record {
        p = x.0;
        q = x.1;
        p_in = x.2;
        q_in = x.3;
        chain = via_sound (onward L) (length L) x.0 x.1 x.4;
        i_is = ap (λ (l : Link). l.from) x.5;
        j_is = ap (λ (l : Link). l.start) x.5;
        k_is = ap (λ (l : Link). l.end) x.5;
      }

  -- such roads are the least set
  least_chain : {p q : ℕ} → p < length L → Chain (onward L) p q → InT L (at L p).from (at L q).start (at L q).end
  least_chain {p} l none = linked (in_at L p (arrow 0 0 0) l)
  least_chain {p} l (step {w = w} e c) =
      let r = onward_parts p w e in
      joined (linked (in_at L p (arrow 0 0 0) l)) (least_chain r.1 c) r.2 r.3

  pub least_road : (i j k : ℕ) → Road i j k → InT L i j k
  least_road i j k r =
      subst (λ x. InT L x j k) r.i_is (subst (λ x. InT L (at L r.p).from x k) r.j_is
      (subst (λ x. InT L (at L r.p).from (at L r.q).start x) r.k_is (least_chain r.p_in r.chain)))

  pub road_least : {i j k : ℕ} → InT L i j k → Road i j k
  road_least (linked {i = i} {j = j} {k = k} h) =
      let a = at_in L (arrow i j k) (arrow 0 0 0) h in
      record {
        p = a.0;
        q = a.0;
        p_in = a.1;
        q_in = a.1;
        chain = none;
        i_is = ap (λ (l : Link). l.from) a.2;
        j_is = ap (λ (l : Link). l.start) a.2;
        k_is = ap (λ (l : Link). l.end) a.2;
      }
  road_least (joined s t lo hi) = both (road_least s) (road_least t) lo hi
    where
      both : {i j k i' j' k' : ℕ} → Road i j k → Road i' j' k' → j ≤ i' → i' < k → Road i j' k'
      both x y lo hi =
          let a = x.j_is in let b = x.k_is in let c = y.i_is in
          record {
            p = x.p;
            q = y.q;
            p_in = x.p_in;
            q_in = y.q_in;
            chain = chain_trans (onward L) x.chain (step (onward_from x.q y.p x.q_in y.p_in (omega arith) (omega arith)) y.chain);
            i_is = x.i_is;
            j_is = y.j_is;
            k_is = y.k_is;
          }

  pub T_least : (i j k : ℕ) → arrow i j k ∈ T L → InT L i j k
  T_least i j k h = least_road i j k (T_in i j k h)

  pub least_T : {i j k : ℕ} → InT L i j k → arrow i j k ∈ T L
  least_T t = in_T (road_least t)

  pub T_rises : Rises below (T L)
  unfolding T
  T_rises = listed_rises (length L) (reaches L) (spanned L)

  pub T_exact : TIsLeast L
  T_exact = record {
    exact = λ i j k. (T_least i j k, least_T);
    rises = rises_at below strict_below (T L) (arrow 0 0 0) T_rises;
    once = rises_once below strict_below (T L) (arrow 0 0 0) T_rises;
  }

  -- the sides
  abbrev from_of : Link → ℕ
  from_of l = l.from

  abbrev start_of : Link → ℕ
  start_of l = l.start

  pub X_in : (i : ℕ) → i ∈ X L → (j : ℕ) × (k : ℕ) × InT L i j k
  unfolding X
  X_in i h =
      let a = map_in from_of (T L) i (sorted_in ltb strict_ltb (map from_of (T L)) i h) in
      let l = a.0 in
      (l.start, l.end, subst (λ x. InT L x l.start l.end) a.2 (T_least l.from l.start l.end a.1))

  pub in_X : {i j k : ℕ} → InT L i j k → i ∈ X L
  unfolding X
  in_X {i} {j} {k} t = in_sorted ltb strict_ltb (map from_of (T L)) i (in_map from_of (T L) (arrow i j k) (least_T t))

  pub Y_in : (j : ℕ) → j ∈ Y L → (i : ℕ) × (k : ℕ) × InT L i j k
  unfolding Y
  Y_in j h =
      let a = map_in start_of (T L) j (sorted_in ltb strict_ltb (map start_of (T L)) j h) in
      let l = a.0 in
      (l.from, l.end, subst (λ x. InT L l.from x l.end) a.2 (T_least l.from l.start l.end a.1))

  pub in_Y : {i j k : ℕ} → InT L i j k → j ∈ Y L
  unfolding Y
  in_Y {i} {j} {k} t = in_sorted ltb strict_ltb (map start_of (T L)) j (in_map start_of (T L) (arrow i j k) (least_T t))

  pub X_rises : Rises ltb (X L)
  unfolding X
  X_rises = sorted_rises ltb strict_ltb (map from_of (T L))

  pub Y_rises : Rises ltb (Y L)
  unfolding Y
  Y_rises = sorted_rises ltb strict_ltb (map start_of (T L))

  -- a member comes from where some link comes from, and goes to where some link goes
  pub source_of : {i j k : ℕ} → InT L i j k → (l : Link) × (l ∈ L) × (l.from ≡ i)
  source_of (linked {i = i} {j = j} {k = k} h) = (arrow i j k, h, refl)
  source_of (joined s t lo hi) = source_of s

  pub target_of : {i j k : ℕ} → InT L i j k → (l : Link) × (l ∈ L) × (l.start ≡ j) × (l.end ≡ k)
  target_of (linked {i = i} {j = j} {k = k} h) = (arrow i j k, h, refl, refl)
  target_of (joined s t lo hi) = target_of t

  -- so the sides are those of the links themselves
  pub X_of_links : X L ≡ sorted ltb (map from_of L)
  unfolding X
  X_of_links = sorted_unique ltb strict_ltb (map from_of (T L)) (map from_of L)
      (λ i h. let a = map_in from_of (T L) i h in let l = a.0 in
      let s = source_of (T_least l.from l.start l.end a.1) in
      subst (λ x. x ∈ map from_of L) (s.2 ∙ a.2) (in_map from_of L s.0 s.1))
      (λ i h. let a = map_in from_of L i h in
      subst (λ x. x ∈ map from_of (T L)) a.2 (in_map from_of (T L) a.0 (least_T (linked a.1))))

  pub Y_of_links : Y L ≡ sorted ltb (map start_of L)
  unfolding Y
  Y_of_links = sorted_unique ltb strict_ltb (map start_of (T L)) (map start_of L)
      (λ i h. let a = map_in start_of (T L) i h in let l = a.0 in
      let s = target_of (T_least l.from l.start l.end a.1) in
      subst (λ x. x ∈ map start_of L) (s.2 ∙ a.2) (in_map start_of L s.0 s.1))
      (λ i h. let a = map_in start_of L i h in
      subst (λ x. x ∈ map start_of (T L)) a.2 (in_map start_of (T L) a.0 (least_T (linked a.1))))

  pub X_few : length (X L) ≤ length L
  X_few = omega (arith, ap length X_of_links, sorted_length ltb strict_ltb (map from_of L), length-map L from_of)

  pub Y_few : length (Y L) ≤ length L
  Y_few = omega (arith, ap length Y_of_links, sorted_length ltb strict_ltb (map start_of L), length-map L start_of)

  pub sides_exact : XAndYAreExact L
  sides_exact = record {
    X_exact = λ i. (X_in i, λ h. in_X h.2);
    X_rises = λ p q h l. ltb-true (get_or (X L) p 0) (get_or (X L) q 0) (rises_at ltb strict_ltb (X L) 0 X_rises p q h l);
    X_few = X_few;
    Y_exact = λ j. (Y_in j, λ h. in_Y h.2);
    Y_rises = λ p q h l. ltb-true (get_or (Y L) p 0) (get_or (Y L) q 0) (rises_at ltb strict_ltb (Y L) 0 Y_rises p q h l);
    Y_few = Y_few;
  }

  -- a rising list with the members of T is T; and so for X and Y
  pub T_unique : (xs : List Link) → Rises below xs → ((i j k : ℕ) → arrow i j k ∈ xs → InT L i j k) → ((i j k : ℕ) → InT L i j k → arrow i j k ∈ xs) → xs ≡ T L
  T_unique xs r f g = rises_unique below strict_below xs (T L) r T_rises
      (λ l h. least_T (f l.from l.start l.end h)) (λ l h. g l.from l.start l.end (T_least l.from l.start l.end h))

  pub X_unique : (xs : List ℕ) → Rises ltb xs → ((i : ℕ) → i ∈ xs → i ∈ map from_of L) → ((l : Link) → l ∈ L → l.from ∈ xs) → xs ≡ X L
  X_unique xs r f g = rises_unique ltb strict_ltb xs (sorted ltb (map from_of L)) r (sorted_rises ltb strict_ltb (map from_of L))
      (λ i h. in_sorted ltb strict_ltb (map from_of L) i (f i h))
      (λ i h. let a = map_in from_of L i (sorted_in ltb strict_ltb (map from_of L) i h) in subst (λ x. x ∈ xs) a.2 (g a.0 a.1))
      ∙ sym X_of_links

  pub Y_unique : (xs : List ℕ) → Rises ltb xs → ((j : ℕ) → j ∈ xs → j ∈ map start_of L) → ((l : Link) → l ∈ L → l.start ∈ xs) → xs ≡ Y L
  Y_unique xs r f g = rises_unique ltb strict_ltb xs (sorted ltb (map start_of L)) r (sorted_rises ltb strict_ltb (map start_of L))
      (λ i h. in_sorted ltb strict_ltb (map start_of L) i (f i h))
      (λ i h. let a = map_in start_of L i (sorted_in ltb strict_ltb (map start_of L) i h) in subst (λ x. x ∈ xs) a.2 (g a.0 a.1))
      ∙ sym Y_of_links

-- links listed row by row rise: the rows by rising i, in each row the j rising
rise_append : (xs ys : List Link) → Rises below xs → Rises below ys → ((l m : Link) → l ∈ xs → m ∈ ys → below l m ≡ true) → Rises below (xs ++ ys)
rise_append [] ys r s h = s
rise_append (x ∷ xs) ys r s h = (All-append (λ y. below x y ≡ true) xs ys r.0 (all_of x ys (λ m i. h x m (inl refl) i)), rise_append xs ys r.1 s (λ l m i j. h l m (inr i) j))
  where
    all_of : (x : Link) (ys : List Link) → ((m : Link) → m ∈ ys → below x m ≡ true) → AllByRecursion (λ y. below x y ≡ true) ys
    all_of x [] h = tt
    all_of x (y ∷ ys) h = (h y (inl refl), all_of x ys (λ m i. h m (inr i)))

row_rises : (i : ℕ) (k : ℕ → ℕ) (ys : List ℕ) → Rises ltb ys → Rises below (map (λ j. arrow i j (k j)) ys)
row_rises i k [] r = tt
row_rises i k (y ∷ ys) r = (
  All-map (λ l. below (arrow i y (k y)) l ≡ true) (λ j. arrow i j (k j)) ys (All-weaker (λ j. ltb y j ≡ true) (λ j. below (arrow i y (k y)) (arrow i j (k j)) ≡ true)
      (λ j e. below_from (arrow i y (k y)) (arrow i j (k j)) (inr (refl, inl (ltb-true y j e)))) ys r.0),
  row_rises i k ys r.1,
)

pub rows_rise : (k : ℕ → ℕ) (P : ℕ → ℕ → Bool) (xs ys : List ℕ) → Rises ltb xs → Rises ltb ys → Rises below (gathered (λ i. map (λ j. arrow i j (k j)) (filter (P i) ys)) xs)
rows_rise k P [] ys r s = tt
rows_rise k P (x ∷ xs) ys r s =
    rise_append (map (λ j. arrow x j (k j)) (filter (P x) ys)) (gathered (λ i. map (λ j. arrow i j (k j)) (filter (P i) ys)) xs)
    (row_rises x k (filter (P x) ys) (kept_rises ltb (P x) ys s)) (rows_rise k P xs ys r.1 s)
    (λ l m h i.
    let a = map_in (λ j. arrow x j (k j)) (filter (P x) ys) l h in
    let b = gathered_in (λ i. map (λ j. arrow i j (k j)) (filter (P i) ys)) xs m i in
    let c = map_in (λ j. arrow b.0 j (k j)) (filter (P b.0) ys) m b.2 in
    let lt : x < b.0 = ltb-true x b.0 (all_in (λ y. ltb x y ≡ true) xs b.0 r.0 b.1) in
    below_from l m (inl (omega (arith, ap (λ (l : Link). l.from) a.2, ap (λ (l : Link). l.from) c.2))))
