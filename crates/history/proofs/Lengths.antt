-- How long a book is, and a sheet: as many as the pairs of models, or the models, that the list has.
use Rattle.std.proofs.Common.{◌≡◌, ℕ, ◌+◌, ◌<◌, Bool, true, false, cond, not, ◌&&◌, ◌||◌, eqb, List, [], ◌∷◌, length, Less, sym, refl, ap, ◌∙◌, arith}
use Rattle.std.proofs.lemmas.Bool.{and_parts, or_left, or_right, not-true, eq-eqb, eqb-true}
use Rattle.lineage.specs.Finite.{total, count}
use Rattle.lineage.proofs.Numbers.{refuted, total_none, total_same, total_add}
use Rattle.lineage.proofs.Ranks.{total_single}
use Rattle.rising.specs.Lists.{rising, below_first}
use Rattle.rising.proofs.Place.{below_each_head, rises_from_rising}
use Rattle.book.specs.declared.derivation.Derivation.{Derivation}
use Rattle.book.specs.Order.{by_models}
use Rattle.book.specs.Derivations.{taken_from}
use Rattle.book.proofs.Taken.{taken_has}
use Rattle.holds.specs.declared.sheet.Hold.{Hold}
use Rattle.holds.specs.Holds.{held, apart}
use Rattle.history.specs.Standing.{is}
use Rattle.book.proofs.Derivations.{models_order}

-- one more, or not
abbrev bit : Bool → ℕ
bit b = cond b 1 0

either : (a b : Bool) → (a ≡ true → b ≡ true → ⊥) → bit (a || b) ≡ bit a + bit b
either a b h = grind arith

one_model : (n x : ℕ) → x < n → count n (λ m. eqb x m) ≡ 1
one_model n x l = total_single n x (λ m. bit (eqb x m)) l (λ j k d. grind arith) ∙ ap bit (eq-eqb x x refl)

one_pair : (n : ℕ) (d : Derivation) → d.from < n → d.to < n → total n (λ u. count n (is d u)) ≡ 1
one_pair n d a b =
    total_single n d.from (λ u. count n (is d u)) a
    (λ u l e. total_none n (λ v. bit (is d u v)) (λ v k. grind arith))
    ∙ total_same n (λ v. bit (is d d.from v)) (λ v. bit (eqb d.to v)) (λ v k. ap (λ t. bit (t && eqb d.to v)) (eq-eqb d.from d.from refl))
    ∙ one_model n d.to b

-- the first of a rising list does not come again
first_once : (d : Derivation) (ds : List Derivation) → rising by_models (d ∷ ds) ≡ true → taken_from ds d.from d.to ≡ false
first_once d ds up = refuted (taken_from ds d.from d.to) (λ t.
    let h = taken_has ds d t in
    let l : by_models d d ≡ Less = ap (by_models d) (sym h.2) ∙ below_each_head by_models d ds (rises_from_rising by_models models_order (d ∷ ds) up) h.0 d h.1 in
    let e = models_order.itself d in cc)

first_apart : (d : Derivation) (ds : List Derivation) (u v : ℕ) → rising by_models (d ∷ ds) ≡ true → is d u v ≡ true → taken_from ds u v ≡ true → ⊥
first_apart d ds u v up e t =
    let p = and_parts (eqb d.from u) (eqb d.to v) e in
    let a = eqb-true d.from u p.0 in
    let b = eqb-true d.to v p.1 in
    let f = first_once d ds up in cc

module _ (n : ℕ) where
  -- a rising list of derivations between models below n is as long as the pairs that it has
  pub length_pairs : (ds : List Derivation) → rising by_models ds ≡ true → ((u v : ℕ) → taken_from ds u v ≡ true → (u < n) × (v < n)) → length ds ≡ total n (λ u. count n (taken_from ds u))
  length_pairs [] up low = sym (total_none n (λ u. count n (λ v. false)) (λ u l. total_none n (λ v. 0) (λ v k. refl)))
  length_pairs (d ∷ ds) up low =
      let rest = length_pairs ds (and_parts (below_first by_models d ds) (rising by_models ds) up).1 (λ u v t. low u v (or_right (is d u v) (taken_from ds u v) t)) in
      let here = low d.from d.to (or_left (is d d.from d.to) (taken_from ds d.from d.to) (grind arith)) in
      let one = one_pair n d here.0 here.1 in
      let row : (u : ℕ) → count n (taken_from (d ∷ ds) u) ≡ count n (is d u) + count n (taken_from ds u) = λ u.
      total_same n (λ v. bit (taken_from (d ∷ ds) u v)) (λ v. bit (is d u v) + bit (taken_from ds u v)) (λ v k. either (is d u v) (taken_from ds u v) (first_apart d ds u v up))
      ∙ total_add n (λ v. bit (is d u v)) (λ v. bit (taken_from ds u v)) in
      let all : total n (λ u. count n (taken_from (d ∷ ds) u)) ≡ total n (λ u. count n (is d u)) + total n (λ u. count n (taken_from ds u)) =
      total_same n (λ u. count n (taken_from (d ∷ ds) u)) (λ u. count n (is d u) + count n (taken_from ds u)) (λ u l. row u)
      ∙ total_add n (λ u. count n (is d u)) (λ u. count n (taken_from ds u)) in
      omega arith

  -- holds on different models below n are as many as the models that they are on
  pub length_holds : (hs : List Hold) → apart hs ≡ true → ((m : ℕ) → held hs m ≡ true → m < n) → length hs ≡ count n (held hs)
  length_holds [] a low = sym (total_none n (λ m. 0) (λ m k. refl))
  length_holds (h ∷ hs) a low =
      let p = and_parts (not (held hs h.model)) (apart hs) a in
      let rest = length_holds hs p.1 (λ m t. low m (or_right (eqb h.model m) (held hs m) t)) in
      let one = one_model n h.model (low h.model (or_left (eqb h.model h.model) (held hs h.model) (eq-eqb h.model h.model refl))) in
      let all : count n (held (h ∷ hs)) ≡ count n (λ m. eqb h.model m) + count n (held hs) =
      total_same n (λ m. bit (held (h ∷ hs) m)) (λ m. bit (eqb h.model m) + bit (held hs m)) (λ m k. either (eqb h.model m) (held hs m) (λ e t. let a = eqb-true h.model m e in let b = not-true (held hs h.model) p.0 in cc))
      ∙ total_add n (λ m. bit (eqb h.model m)) (λ m. bit (held hs m)) in
      omega arith
