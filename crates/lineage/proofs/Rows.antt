-- T and N row by row over X and Y, as running code lists the members and fills the matrix. Assumes nothing.
use Rattle.std.proofs.Common.{◌≡◌, ℕ, Bool, true, ◌&&◌, leb, List, [], ◌∷◌, map, length, get_or, filter, sym, refl, ap, ◌∙◌, subst, arith}
use Rattle.lineage.specs.Finite.{total, count}
use Rattle.lineage.specs.Lists.{◌∈◌, gathered}
use Rattle.lineage.specs.Closure.{Link, arrow, covers, InT, T, N, X, Y}
use Rattle.lineage.proofs.Numbers.{bit, total_front, total_same, count_same}
use Rattle.lineage.proofs.Kept.{kept_more, kept_append, kept_map, kept_all, and_true}
use Rattle.lineage.proofs.Rising.{map_in, in_map, gathered_in, in_gathered, in_kept, kept_in}
use Rattle.lineage.proofs.Closure.{rows_rise, T_unique, in_X, in_Y, X_rises, Y_rises}
use Rattle.lineage.proofs.Counts.{counted}

-- counting in a list by its places
kept_places : (p : ℕ → Bool) (xs : List ℕ) → length (filter p xs) ≡ count (length xs) (λ k. p (get_or xs k 0))
kept_places p [] = refl
kept_places p (x ∷ xs) = omega (arith, kept_more p x xs, kept_places p xs, total_front (length xs) (λ k. bit (p (get_or (x ∷ xs) k 0))))

-- and in rows
pub kept_rows : {A : Type 0} (test : A → Bool) (f : ℕ → ℕ → A) (P : ℕ → ℕ → Bool) (xs ys : List ℕ) →
    length (filter test (gathered (λ i. map (f i) (filter (P i) ys)) xs)) ≡
    total (length xs) (λ p. count (length ys) (λ q. P (get_or xs p 0) (get_or ys q 0) && test (f (get_or xs p 0) (get_or ys q 0))))
kept_rows test f P [] ys = refl
kept_rows test f P (x ∷ xs) ys = omega (
  arith,
  kept_append test (map (f x) (filter (P x) ys)) (gathered (λ i. map (f i) (filter (P i) ys)) xs),
  kept_map test (f x) (P x) ys,
  kept_places (λ j. P x j && test (f x j)) ys,
  kept_rows test f P xs ys,
  total_front (length xs) (λ p. count (length ys) (λ q. P (get_or (x ∷ xs) p 0) (get_or ys q 0) && test (f (get_or (x ∷ xs) p 0) (get_or ys q 0)))),
)

-- P i j says that i → [j, k j) is a member of T, and no member from i to j has another end
module _ (L : List Link) (k : ℕ → ℕ) (P : ℕ → ℕ → Bool)
    (sound : (i j : ℕ) → P i j ≡ true → InT L i j (k j)) (whole : (i j e : ℕ) → InT L i j e → (k j ≡ e) × (P i j ≡ true)) where
  pub T_rows : gathered (λ i. map (λ j. arrow i j (k j)) (filter (P i) (Y L))) (X L) ≡ T L
  T_rows = T_unique L (gathered (λ i. map (λ j. arrow i j (k j)) (filter (P i) (Y L))) (X L)) (rows_rise k P (X L) (Y L) (X_rises L) (Y_rises L))
      (λ i j e h.
      let x = gathered_in (λ i. map (λ j. arrow i j (k j)) (filter (P i) (Y L))) (X L) (arrow i j e) h in
      let y = map_in (λ j. arrow x.0 j (k j)) (filter (P x.0) (Y L)) (arrow i j e) x.2 in
      let z = kept_in (P x.0) (Y L) y.0 y.1 in
      let m = sound x.0 y.0 z.1 in
      subst (λ a. InT L a j e) (ap (λ (l : Link). l.from) y.2) (subst (λ b. InT L x.0 b e) (ap (λ (l : Link). l.start) y.2)
      (subst (λ c. InT L x.0 y.0 c) (ap (λ (l : Link). l.end) y.2) m)))
      (λ i j e t.
      let w = whole i j e t in
      in_gathered (λ i. map (λ j. arrow i j (k j)) (filter (P i) (Y L))) (X L) i (arrow i j e) (in_X L t)
      (subst (λ c. arrow i j c ∈ map (λ j. arrow i j (k j)) (filter (P i) (Y L))) w.0
      (in_map (λ j. arrow i j (k j)) (filter (P i) (Y L)) j (in_kept (P i) (Y L) j (in_Y L t) w.1))))

  pub N_rows : (x y : ℕ) → N L x y ≡ total (length (X L)) (λ p. count (length (Y L)) (λ q.
      P (get_or (X L) p 0) (get_or (Y L) q 0) && (leb x (get_or (X L) p 0) && covers (arrow (get_or (X L) p 0) (get_or (Y L) q 0) (k (get_or (Y L) q 0))) y)))
  unfolding N
  N_rows x y =
      ap (λ ls. length (filter (counted x y) ls)) (sym T_rows)
      ∙ kept_rows (counted x y) (λ i j. arrow i j (k j)) P (X L) (Y L)

  pub T_count : length (T L) ≡ total (length (X L)) (λ p. count (length (Y L)) (λ q. P (get_or (X L) p 0) (get_or (Y L) q 0)))
  T_count =
      ap length (sym T_rows)
      ∙ (sym (kept_all (gathered (λ i. map (λ j. arrow i j (k j)) (filter (P i) (Y L))) (X L)))
      ∙ (kept_rows (λ l. true) (λ i j. arrow i j (k j)) P (X L) (Y L)
      ∙ total_same (length (X L)) (λ p. count (length (Y L)) (λ q. P (get_or (X L) p 0) (get_or (Y L) q 0) && true)) (λ p. count (length (Y L)) (λ q. P (get_or (X L) p 0) (get_or (Y L) q 0)))
      (λ p l. count_same (length (Y L)) (λ q. P (get_or (X L) p 0) (get_or (Y L) q 0) && true) (λ q. P (get_or (X L) p 0) (get_or (Y L) q 0)) (λ q m. and_true (P (get_or (X L) p 0) (get_or (Y L) q 0))))))
