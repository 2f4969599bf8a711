-- T, N, X and Y of a book by a test on pairs of groups, the form in which running code finds them. Assumes nothing.
use Rattle.std.proofs.Common.{◌≡◌, ℕ, ◌<◌, ◌≤◌, Bool, true, ◌&&◌, ◌||◌, eqb, ltb, leb, ◌⊎◌, map, length, filter, sym, refl, ap, ◌∙◌, subst, inl, inr, arith}
use Rattle.std.specs.List.{range_with_len}
use Rattle.std.proofs.lemmas.Bool.{and_parts, and_from, or_cases, or_left, or_right, eqb-true, eq-eqb}
use Rattle.lineage.specs.Finite.{Chain, none, step, total, count, any, those, Within}
use Rattle.lineage.specs.Lists.{◌∈◌, Distinct, gathered}
use Rattle.lineage.specs.Closure.{Link, arrow, below, InT, linked, joined, listed, T, N, X, Y}
use Rattle.lineage.specs.Book.{leads, group, arc, tree, start, end, link, toward, links}
use Rattle.lineage.proofs.Numbers.{any_hit, any_some}
use Rattle.lineage.proofs.Rising.{map_in, those_in, in_those, those_rises, rises_unique, rises_distinct, counting_rises, distinct_map, distinct_gathered, sorted_kept, strict_ltb}
use Rattle.lineage.proofs.Kept.{kept_all, kept_pairs, length_pairs}
use Rattle.lineage.proofs.Reach.{chain_trans}
use Rattle.lineage.proofs.Closure.{link_path, strict_below, in_listed, listed_in, listed_rises, T_least, least_T, T_rises, X_in, in_X, X_rises, Y_in, in_Y, Y_rises}
use Rattle.lineage.proofs.Counts.{counted}
use Rattle.lineage.proofs.Groups.{leads_sound, leads_whole, leads_trans, chain_arcs}
use Rattle.lineage.proofs.Tree.{interval_whole, interval_sound, distinct_starts, start_below}
use Rattle.lineage.proofs.Links.{link_leads, Ends, link_ends, in_links, links_in, arc_cases, tree_leads, Through}

-- The start of a → the interval of b is a member of T: it is a link, or goes by a first link a → c and a last link d → b where c leads to d.
unfoldable pub closed : (n : ℕ) (R : ℕ → ℕ → Bool) → ℕ → ℕ → Bool
closed n R a b = link n R a b || any n (λ c. link n R a c && any n (λ d. leads n R c d && link n R d b))

-- The starts of the sources and of the targets.
unfoldable pub is_x : (n : ℕ) (R : ℕ → ℕ → Bool) → ℕ → Bool
is_x n R i = any n (λ a. eqb (start n R a) i && any n (λ b. closed n R a b))

unfoldable pub is_y : (n : ℕ) (R : ℕ → ℕ → Bool) → ℕ → Bool
is_y n R j = any n (λ b. eqb (start n R b) j && any n (λ a. closed n R a b))

module _ (n : ℕ) (R : ℕ → ℕ → Bool) (within : Within n R) where
  -- the first and the last link
  pub record Closed (a b : ℕ) : Type 0 where
    pub c : ℕ
    pub d : ℕ
    pub first : link n R a c ≡ true
    pub last : link n R d b ≡ true
    pub one_or_more : (link n R a b ≡ true) ⊎ (leads n R c d ≡ true)
    pub from_first : leads n R c b ≡ true
    pub to_last : leads n R a d ≡ true

  pub closed_parts : (a b : ℕ) → closed n R a b ≡ true → Closed a b
  unfolding closed
  closed_parts a b e =
      elim (or_cases (link n R a b) (any n (λ c. link n R a c && any n (λ d. leads n R c d && link n R d b))) e) [
        | inl x ↦ record {
          c = b;
          d = a;
          first = x;
          last = x;
          one_or_more = inl x;
          from_first = leads_whole n R within none;
          to_last = leads_whole n R within none;
        }
        | inr x ↦
            let y = any_some n (λ c. link n R a c && any n (λ d. leads n R c d && link n R d b)) x in
            let c = y.0 in
            let p = and_parts (link n R a c) (any n (λ d. leads n R c d && link n R d b)) y.2 in
            let z = any_some n (λ d. leads n R c d && link n R d b) p.1 in
            let d = z.0 in
            let q = and_parts (leads n R c d) (link n R d b) z.2 in
            record {
              c = c;
              d = d;
              first = p.0;
              last = q.1;
              one_or_more = inr q.0;
              from_first = leads_trans n R within c d b q.0 (link_leads n R within d b q.1);
              to_last = leads_trans n R within a c d (link_leads n R within a c p.0) q.0;
            }
      ]

  pub closed_ends : (a b : ℕ) → closed n R a b ≡ true → Ends n R within a b
  closed_ends a b e =
      let p = closed_parts a b e in
      let x = link_ends n R within a p.c p.first in let y = link_ends n R within p.d b p.last in
      record { a_in = x.a_in; b_in = y.b_in; a_group = x.a_group; b_group = y.b_group }

  pub closed_last : (a b : ℕ) → closed n R a b ≡ true → any n (λ d. link n R d b) ≡ true
  closed_last a b e =
      let p = closed_parts a b e in
      any_hit n (λ d. link n R d b) p.d (link_ends n R within p.d b p.last).a_in p.last

  pub closed_link : (a b : ℕ) → link n R a b ≡ true → closed n R a b ≡ true
  unfolding closed
  closed_link a b e =
      or_left (link n R a b) (any n (λ c. link n R a c && any n (λ d. leads n R c d && link n R d b))) e

  pub closed_two : (a c d b : ℕ) → link n R a c ≡ true → leads n R c d ≡ true → link n R d b ≡ true → closed n R a b ≡ true
  unfolding closed
  closed_two a c d b p q r =
      let x = link_ends n R within a c p in let y = link_ends n R within d b r in
      or_right (link n R a b) (any n (λ c. link n R a c && any n (λ d. leads n R c d && link n R d b)))
      (any_hit n (λ c. link n R a c && any n (λ d. leads n R c d && link n R d b)) c x.b_in
      (and_from (link n R a c) (any n (λ d. leads n R c d && link n R d b)) p
      (any_hit n (λ d. leads n R c d && link n R d b) d y.a_in (and_from (leads n R c d) (link n R d b) q r))))

  pub closed_join : (a b x y : ℕ) → closed n R a b ≡ true → leads n R b x ≡ true → closed n R x y ≡ true → closed n R a y ≡ true
  closed_join a b x y p q r =
      let s = closed_parts a b p in let t = closed_parts x y r in
      closed_two a s.c t.d y s.first
      (leads_trans n R within s.c b t.d s.from_first (leads_trans n R within b x t.d q t.to_last)) t.last

  pub closed_leads : (a b : ℕ) → closed n R a b ≡ true → leads n R a b ≡ true
  closed_leads a b e = let p = closed_parts a b e in leads_trans n R within a p.c b (link_leads n R within a p.c p.first) p.from_first

  -- `closed` is T
  hop : {i j e : ℕ} (c b : ℕ) → InT (links n R) i j e → (j ≤ start n R c) × (start n R c < e) → link n R c b ≡ true → InT (links n R) i (start n R b) (end n R b)
  hop c b m p k = joined m (linked (in_links n R within c b k)) p.0 p.1

  follow : {i c d : ℕ} (t b : ℕ) → t < n → group n R t ≡ t → InT (links n R) i (start n R t) (end n R t) → Chain (tree n R) t c → Chain (arc n R) c d → link n R d b ≡ true →
      InT (links n R) i (start n R b) (end n R b)
  follow {c = c} t b l g m down none k =
      let x = link_ends n R within c b k in
      hop c b m (interval_whole n R within t c l x.a_in g x.a_group down) k
  follow {c = c} t b l g m down (step {w = w} e chain) k = elim (arc_cases n R within c w e) [
    | inl u ↦ follow t b l g m (chain_trans (tree n R) down u) chain k
    | inr u ↦
        let x = link_ends n R within c w u in
        follow w b x.b_in x.b_group (hop c w m (interval_whole n R within t c l x.a_in g x.a_group down) u) none chain k
  ]

  pub closed_in_T : (a b : ℕ) → closed n R a b ≡ true → Through n R within a b
  closed_in_T a b e =
      let p = closed_parts a b e in
      elim p.one_or_more [
        | inl x ↦ linked (in_links n R within a b x)
        | inr x ↦
            let f = link_ends n R within a p.c p.first in let g = link_ends n R within p.d b p.last in
            let h = chain_arcs n R within (leads_sound n R within p.c p.d x) in
            let h₁ = subst (λ (z : ℕ). Chain (arc n R) z (group n R p.d)) f.b_group h in
            let h₂ = subst (λ (z : ℕ). Chain (arc n R) p.c z) g.a_group h₁ in
            follow p.c b f.b_in f.b_group (linked (in_links n R within a p.c p.first)) none h₂ p.last
      ]

  pub record Shown (i j k : ℕ) : Type 0 where
    pub a : ℕ
    pub b : ℕ
    pub is : closed n R a b ≡ true
    pub i_is : start n R a ≡ i
    pub j_is : start n R b ≡ j
    pub k_is : end n R b ≡ k

  pub T_closed : {i j k : ℕ} → InT (links n R) i j k → Shown i j k
  T_closed (linked {i = i} {j = j} {k = k} h) =
      let x = links_in n R within (arrow i j k) h in
      record {
        a = x.0;
        b = x.1;
        is = closed_link x.0 x.1 x.2;
        i_is = ap (λ (l : Link). l.from) x.3;
        j_is = ap (λ (l : Link). l.start) x.3;
        k_is = ap (λ (l : Link). l.end) x.3;
      }
  T_closed (joined s t lo hi) = both (T_closed s) (T_closed t) lo hi
    where
      both : {i j k i' j' k' : ℕ} → Shown i j k → Shown i' j' k' → j ≤ i' → i' < k → Shown i j' k'
      both x y lo hi =
          let f = closed_ends x.a x.b x.is in let g = closed_ends y.a y.b y.is in
          let e₁ = x.j_is in let e₂ = x.k_is in let e₃ = y.i_is in
          let c = interval_sound n R within x.b y.a f.b_in g.a_in f.b_group g.a_group (omega arith) (omega arith) in
          record {
            a = x.a;
            b = y.b;
            is = closed_join x.a x.b y.a y.b x.is (tree_leads n R within c) y.is;
            i_is = x.i_is;
            j_is = y.j_is;
            k_is = y.k_is;
          }

  pub T_pairs : T (links n R) ≡ listed n (closed n R) (toward n R)
  T_pairs = rises_unique below strict_below (T (links n R)) (listed n (closed n R) (toward n R)) (T_rises (links n R)) (listed_rises n (closed n R) (toward n R))
      (λ l h.
      let x = T_closed (T_least (links n R) l.from l.start l.end h) in
      let e = closed_ends x.a x.b x.is in
      subst (λ z. z ∈ listed n (closed n R) (toward n R)) (link_path (toward n R x.a x.b) l x.i_is x.j_is x.k_is)
      (in_listed n (closed n R) (toward n R) x.a x.b e.a_in e.b_in x.is))
      (λ l h.
      let x = listed_in n (closed n R) (toward n R) l h in
      subst (λ z. z ∈ T (links n R)) x.5 (least_T (links n R) (closed_in_T x.0 x.1 x.4)))

  -- how many
  module _ (P : ℕ → ℕ → Bool) (ends : (a b : ℕ) → P a b ≡ true → Ends n R within a b) where
    pairs_distinct : Distinct (gathered (λ a. map (toward n R a) (those n (P a))) (range_with_len 0 n))
    pairs_distinct = distinct_gathered (λ a. map (toward n R a) (those n (P a))) (range_with_len 0 n)
        (λ a i. distinct_map (toward n R a) (those n (P a)) (λ b c j k e.
        let f = ends a b (those_in n (P a) b j).1 in let g = ends a c (those_in n (P a) c k).1 in
        distinct_starts n R within b c f.b_in g.b_in f.b_group g.b_group (ap (λ (l : Link). l.start) e))
        (rises_distinct ltb strict_ltb (those n (P a)) (those_rises n (P a))))
        (λ a b l i j h k.
        let x = map_in (toward n R a) (those n (P a)) l h in let y = map_in (toward n R b) (those n (P b)) l k in
        let f = ends a x.0 (those_in n (P a) x.0 x.1).1 in let g = ends b y.0 (those_in n (P b) y.0 y.1).1 in
        distinct_starts n R within a b f.a_in g.a_in f.a_group g.a_group (ap (λ (l : Link). l.from) (x.2 ∙ sym y.2)))
        (rises_distinct ltb strict_ltb (range_with_len 0 n) (counting_rises n 0))

    pub listed_kept : (test : Link → Bool) → length (filter test (listed n P (toward n R))) ≡ total n (λ a. count n (λ b. P a b && test (toward n R a b)))
    listed_kept test = sorted_kept below strict_below test (gathered (λ a. map (toward n R a) (those n (P a))) (range_with_len 0 n)) pairs_distinct ∙ kept_pairs test (toward n R) n P

    pub listed_length : length (listed n P (toward n R)) ≡ total n (λ a. count n (P a))
    listed_length =
        sym (kept_all (listed n P (toward n R)))
        ∙ (sorted_kept below strict_below (λ l. true) (gathered (λ a. map (toward n R a) (those n (P a))) (range_with_len 0 n)) pairs_distinct
        ∙ (kept_all (gathered (λ a. map (toward n R a) (those n (P a))) (range_with_len 0 n)) ∙ length_pairs (toward n R) n P))

  -- t
  pub links_count : length (links n R) ≡ total n (λ a. count n (link n R a))
  unfolding links
  links_count = listed_length (link n R) (link_ends n R within)

  -- |T|
  pub members_count : length (T (links n R)) ≡ total n (λ a. count n (closed n R a))
  members_count = ap length T_pairs ∙ listed_length (closed n R) closed_ends

  pub N_pairs : (x y : ℕ) → N (links n R) x y ≡ total n (λ a. count n (λ b. closed n R a b && (leb x (start n R a) && (leb (start n R b) y && ltb y (end n R b)))))
  unfolding N
  N_pairs x y = ap (λ xs. length (filter (counted x y) xs)) T_pairs ∙ listed_kept (closed n R) closed_ends (counted x y)

  -- X and Y
  pub is_x_hit : (a b : ℕ) → closed n R a b ≡ true → is_x n R (start n R a) ≡ true
  unfolding is_x
  is_x_hit a b e =
      let x = closed_ends a b e in
      any_hit n (λ c. eqb (start n R c) (start n R a) && any n (λ b. closed n R c b)) a x.a_in
      (and_from (eqb (start n R a) (start n R a)) (any n (λ b. closed n R a b)) (eq-eqb (start n R a) (start n R a) refl)
      (any_hit n (λ b. closed n R a b) b x.b_in e))

  pub is_x_some : (i : ℕ) → is_x n R i ≡ true → (a : ℕ) × (b : ℕ) × (start n R a ≡ i) × (closed n R a b ≡ true)
  unfolding is_x
  is_x_some i e =
      let x = any_some n (λ a. eqb (start n R a) i && any n (λ b. closed n R a b)) e in
      let p = and_parts (eqb (start n R x.0) i) (any n (λ b. closed n R x.0 b)) x.2 in
      let y = any_some n (λ b. closed n R x.0 b) p.1 in
      (x.0, y.0, eqb-true (start n R x.0) i p.0, y.2)

  pub is_y_hit : (a b : ℕ) → closed n R a b ≡ true → is_y n R (start n R b) ≡ true
  unfolding is_y
  is_y_hit a b e =
      let x = closed_ends a b e in
      any_hit n (λ c. eqb (start n R c) (start n R b) && any n (λ a. closed n R a c)) b x.b_in
      (and_from (eqb (start n R b) (start n R b)) (any n (λ a. closed n R a b)) (eq-eqb (start n R b) (start n R b) refl)
      (any_hit n (λ a. closed n R a b) a x.a_in e))

  pub is_y_some : (j : ℕ) → is_y n R j ≡ true → (a : ℕ) × (b : ℕ) × (start n R b ≡ j) × (closed n R a b ≡ true)
  unfolding is_y
  is_y_some j e =
      let x = any_some n (λ b. eqb (start n R b) j && any n (λ a. closed n R a b)) e in
      let p = and_parts (eqb (start n R x.0) j) (any n (λ a. closed n R a x.0)) x.2 in
      let y = any_some n (λ a. closed n R a x.0) p.1 in
      (y.0, x.0, eqb-true (start n R x.0) j p.0, y.2)

  pub X_those : X (links n R) ≡ those n (is_x n R)
  X_those = rises_unique ltb strict_ltb (X (links n R)) (those n (is_x n R)) (X_rises (links n R)) (those_rises n (is_x n R))
      (λ i h.
      let x = T_closed (X_in (links n R) i h).2 in
      let e = closed_ends x.a x.b x.is in
      subst (λ z. z ∈ those n (is_x n R)) x.i_is (in_those n (is_x n R) (start n R x.a) (start_below n R within x.a e.a_in) (is_x_hit x.a x.b x.is)))
      (λ i h.
      let x = is_x_some i (those_in n (is_x n R) i h).1 in
      subst (λ z. z ∈ X (links n R)) x.2 (in_X (links n R) (closed_in_T x.0 x.1 x.3)))

  pub Y_those : Y (links n R) ≡ those n (is_y n R)
  Y_those = rises_unique ltb strict_ltb (Y (links n R)) (those n (is_y n R)) (Y_rises (links n R)) (those_rises n (is_y n R))
      (λ j h.
      let x = T_closed (Y_in (links n R) j h).2 in
      let e = closed_ends x.a x.b x.is in
      subst (λ z. z ∈ those n (is_y n R)) x.j_is (in_those n (is_y n R) (start n R x.b) (start_below n R within x.b e.b_in) (is_y_hit x.a x.b x.is)))
      (λ j h.
      let x = is_y_some j (those_in n (is_y n R) j h).1 in
      subst (λ z. z ∈ Y (links n R)) x.2 (in_Y (links n R) (closed_in_T x.0 x.1 x.3)))
