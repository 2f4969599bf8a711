-- How a search marks what it finds and lets it wait, and that a search that is done has found what a chain leads to.
use Rattle.std.proofs.Common.{◌≡◌, ℕ, zero, suc, ◌+◌, ◌<◌, ◌≤◌, Bool, true, false, eqb, ◌⊎◌, List, [], ◌∷◌, ◌++◌, length, get_or, set, take, drop, replicate, sym, refl, ap, ◌∙◌, subst, inl, inr, arith, length-set, length-append}
use Rattle.std.proofs.lemmas.List.{get_or-set_same, drop-append-le, length-take-le, take_more_set}
use Rattle.std.proofs.lemmas.Bool.{true≢false, false≢true, or_cases, or_left, or_right, eqb-true, eq-eqb}
use Rattle.lineage.specs.Finite.{Chain, none, step}
use Rattle.lineage.proofs.Reach.{chain_trans}
use Rattle.search.specs.Following.{lists}
use Rattle.search.specs.Marks.{unmarked, Marked, Finds, Found, Closed}

-- a new mark takes one from the places that have none
pub unmarked_set : (m : List Bool) (v : ℕ) → v < length m → get_or m v false ≡ false → unmarked (set m v true) + 1 ≡ unmarked m
unfolding unmarked
unmarked_set [] v l e = absurd (omega arith)
unmarked_set (true ∷ m) zero l e = absurd (true≢false e)
unmarked_set (false ∷ m) zero l e = omega arith
unmarked_set (x ∷ m) (suc v) l e = let r = unmarked_set m v (omega arith) e in omega arith

pub unmarked_all : (n : ℕ) → unmarked (replicate n false) ≡ n
unfolding unmarked
unmarked_all zero = refl
unmarked_all (suc n) = let r = unmarked_all n in omega arith

pub none_at : (n v : ℕ) → get_or (replicate n false) v false ≡ false
none_at zero v = refl
none_at (suc n) zero = refl
none_at (suc n) (suc v) = none_at n v

marked_set : (m : List Bool) (v w : ℕ) → Marked m w → Marked (set m v true) w
marked_set [] v w p = p
marked_set (x ∷ m) zero zero p = refl
marked_set (x ∷ m) zero (suc w) p = p
marked_set (x ∷ m) (suc v) zero p = p
marked_set (x ∷ m) (suc v) (suc w) p = marked_set m v w p

marked_before : (m : List Bool) (v w : ℕ) → Marked (set m v true) w → (Marked m w) ⊎ (w ≡ v)
marked_before [] v w p = inl p
marked_before (x ∷ m) zero zero p = inr refl
marked_before (x ∷ m) zero (suc w) p = inl p
marked_before (x ∷ m) (suc v) zero p = inl p
marked_before (x ∷ m) (suc v) (suc w) p = elim (marked_before m v w p) [ inl q ↦ inl q | inr q ↦ inr (ap suc q) ]

-- a list with one more model behind it
itself : (x : ℕ) → lists (x ∷ []) x ≡ true
itself x = or_left (eqb x x) false (eq-eqb x x refl)

pub only : (x v : ℕ) → lists (x ∷ []) v ≡ true → x ≡ v
only x v e = elim (or_cases (eqb x v) false e) [ inl h ↦ eqb-true x v h | inr h ↦ absurd (false≢true h) ]

lists_before : (q : List ℕ) (x v : ℕ) → lists q v ≡ true → lists (q ++ x ∷ []) v ≡ true
lists_before [] x v e = absurd (false≢true e)
lists_before (y ∷ q) x v e = elim (or_cases (eqb y v) (lists q v) e) [
  | inl h ↦ or_left (eqb y v) (lists (q ++ x ∷ []) v) h
  | inr h ↦ or_right (eqb y v) (lists (q ++ x ∷ []) v) (lists_before q x v h)
]

lists_last : (q : List ℕ) (x : ℕ) → lists (q ++ x ∷ []) x ≡ true
lists_last [] x = itself x
lists_last (y ∷ q) x = or_right (eqb y x) (lists (q ++ x ∷ []) x) (lists_last q x)

lists_behind : (q : List ℕ) (x v : ℕ) → lists (q ++ x ∷ []) v ≡ true → (lists q v ≡ true) ⊎ (x ≡ v)
lists_behind [] x v e = inr (only x v e)
lists_behind (y ∷ q) x v e = elim (or_cases (eqb y v) (lists (q ++ x ∷ []) v) e) [
  | inl h ↦ inl (or_left (eqb y v) (lists q v) h)
  | inr h ↦ elim (lists_behind q x v h) [ inl g ↦ inl (or_right (eqb y v) (lists q v) g) | inr g ↦ inr g ]
]

-- no model is found, or one that has a mark
pub finds_none : (m : List Bool) (q : List ℕ) → Finds [] m q m q
finds_none m q = record { size = refl; room = refl; marks = λ v p. p; waits = λ v p. p; all = λ v e. absurd (false≢true e); anew = λ v p. inl p; queued = λ v p. inl p }

pub finds_old : (x : ℕ) (m : List Bool) (q : List ℕ) → Marked m x → Finds (x ∷ []) m q m q
finds_old x m q k = record {
  size = refl;
  room = refl;
  marks = λ v p. p;
  waits = λ v p. p;
  all = λ v e. subst (Marked m) (only x v e) k;
  anew = λ v p. inl p;
  queued = λ v p. inl p;
}

-- a model that has no mark is found
pub finds_new : (x : ℕ) (m : List Bool) (q : List ℕ) → x < length m → get_or m x false ≡ false → Finds (x ∷ []) m q (set m x true) (q ++ x ∷ [])
finds_new x m q l e = record {
  size = length-set m x true;
  room = omega (arith, length-append q (x ∷ []), unmarked_set m x l e);
  marks = λ v p. marked_set m x v p;
  waits = λ v p. lists_before q x v p;
  all = λ v f. subst (Marked (set m x true)) (only x v f) (get_or-set_same m x true false l);
  anew = λ v p. elim (marked_before m x v p) [
    | inl h ↦ inl h
    | inr f ↦ inr (subst (λ (y : ℕ). lists (x ∷ []) y ≡ true) (sym f) (itself x), subst (λ (y : ℕ). lists (q ++ x ∷ []) y ≡ true) (sym f) (lists_last q x))
  ];
  queued = λ v p. elim (lists_behind q x v p) [ inl h ↦ inl h | inr f ↦ inr (subst (λ (y : ℕ). lists (x ∷ []) y ≡ true) f (itself x)) ];
}

-- a row of models with one more in its place, from h on
pub row_more : (row : List ℕ) (h end x : ℕ) → h ≤ end → end < length row → drop h (take (end + 1) (set row end x)) ≡ drop h (take end row) ++ x ∷ []
row_more row h end x a l = ap (drop h) (take_more_set row end x l) ∙ drop-append-le h (take end row) (x ∷ []) (omega (arith, length-take-le end row (omega arith)))

-- and one more model than ts
pub finds_more : (ts : List ℕ) (x : ℕ) (m n o : List Bool) (q r s : List ℕ) → Finds ts m q n r → Finds (x ∷ []) n r o s → Finds (ts ++ x ∷ []) m q o s
finds_more ts x m n o q r s a b = record {
  size = b.size ∙ a.size;
  room = b.room ∙ a.room;
  marks = λ v p. b.marks v (a.marks v p);
  waits = λ v p. b.waits v (a.waits v p);
  all = λ v e. elim (lists_behind ts x v e) [ inl h ↦ b.marks v (a.all v h) | inr f ↦ subst (Marked o) f (b.all x (itself x)) ];
  anew = λ v p. elim (b.anew v p) [
    | inl h ↦ elim (a.anew v h) [ inl g ↦ inl g | inr g ↦ inr (lists_before ts x v g.0, b.waits v g.1) ]
    | inr h ↦ inr (subst (λ (y : ℕ). lists (ts ++ x ∷ []) y ≡ true) (only x v h.0) (lists_last ts x), h.1)
  ];
  queued = λ v p. elim (b.queued v p) [
    | inl h ↦ elim (a.queued v h) [ inl g ↦ inl g | inr g ↦ inr (lists_before ts x v g) ]
    | inr h ↦ inr (subst (λ (y : ℕ). lists (ts ++ x ∷ []) y ≡ true) (only x v h) (lists_last ts x))
  ];
}

-- a search that has found its first model, that visits one more, and that is done
pub found_first : (R : ℕ → ℕ → Bool) (u n : ℕ) (m : List Bool) (q : List ℕ) → Finds (u ∷ []) (replicate n false) [] m q → Found R u q m
found_first R u n m q f = record {
  start = f.all u (itself u);
  chained = λ v p. elim (f.anew v p) [ inl h ↦ absurd (false≢true (sym (none_at n v) ∙ h)) | inr h ↦ subst (Chain R u) (only u v h.0) none ];
  queued = λ v p. elim (f.queued v p) [ inl h ↦ absurd (false≢true h) | inr h ↦ f.all v h ];
  visited = λ w v p e. elim (f.anew w p) [ inl h ↦ absurd (false≢true (sym (none_at n w) ∙ h)) | inr h ↦ inl h.1 ];
}

pub found_next : (R : ℕ → ℕ → Bool) (u w : ℕ) (ts : List ℕ) (m n : List Bool) (q r : List ℕ) → ((v : ℕ) → R w v ≡ lists ts v) → Found R u (w ∷ q) m → Finds ts m q n r → Found R u r n
found_next R u w ts m n q r row f g =
    let here : Chain R u w = f.chained w (f.queued w (or_left (eqb w w) (lists q w) (eq-eqb w w refl))) in
    record {
      start = g.marks u f.start;
      chained = λ v p. elim (g.anew v p) [ inl h ↦ f.chained v h | inr h ↦ chain_trans R here (step (row v ∙ h.0) none) ];
      queued = λ v p. elim (g.queued v p) [ inl h ↦ g.marks v (f.queued v (or_right (eqb w v) (lists q v) h)) | inr h ↦ g.all v h ];
      visited = λ x v p e. elim (g.anew x p) [
        | inl h ↦ elim (f.visited x v h e) [
          | inl k ↦ elim (or_cases (eqb w x) (lists q x) k) [ inl b ↦ inr (g.all v (sym (row v) ∙ ap (λ (y : ℕ). R y v) (eqb-true w x b) ∙ e)) | inr b ↦ inl (g.waits x b) ]
          | inr k ↦ inr (g.marks v k)
        ]
        | inr h ↦ inl h.1
      ];
    }

pub found_closed : (R : ℕ → ℕ → Bool) (u : ℕ) (m : List Bool) → Found R u [] m → Closed R u m
found_closed R u m f = record {
  start = f.start;
  chained = f.chained;
  closed = λ w v p e. elim (f.visited w v p e) [ inl h ↦ absurd (false≢true h) | inr h ↦ h ];
}

-- marks that are closed under a step hold all that a chain leads to
pub chain_marked : (R : ℕ → ℕ → Bool) (m : List Bool) → ((w v : ℕ) → Marked m w → R w v ≡ true → Marked m v) → {u v : ℕ} → Chain R u v → Marked m u → Marked m v
chain_marked R m closed none p = p
chain_marked R m closed {u} {v} (step {w = w} e c) p = chain_marked R m closed c (closed u w p e)
