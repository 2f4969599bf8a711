-- Rows cut from a book's rising derivations say the same of who was taken from whom as the list does.
use Rattle.std.proofs.Common.{◌≡◌, ℕ, zero, suc, ◌+◌, ◌-◌, ◌<◌, ◌≤◌, Bool, true, false, cond, eqb, ltb, List, [], ◌∷◌, length, get_or, Less, Equal, Greater, sym, ap, ◌∙◌, subst, inl, inr, arith}
use Rattle.std.specs.Ordering.{is_lt, nat_cmp, ordering_then}
use Rattle.std.specs.List.{between}
use Rattle.std.proofs.lemmas.List.{get_or_default}
use Rattle.std.proofs.lemmas.Bool.{false≢true, cases_lt, cases_Bool, le-ltb, ne_eqb, and_parts}
use Rattle.rising.specs.Lists.{rising, below_first}
use Rattle.book.specs.declared.derivation.Derivation.{Derivation}
use Rattle.book.specs.Order.{by_models}
use Rattle.book.specs.Derivations.{Valid, taken_from}
use Rattle.book.specs.declared.kept.Book.{Book}
use Rattle.book.specs.declared.count.Count.{Count}
use Rattle.book.specs.Counts.{models}
use Rattle.book.specs.Books.{standing, count_of}
use Rattle.book.proofs.Taken.{has_taken, taken_has, taken_below}
use Rattle.book.proofs.Books.{valid_book}
use Rattle.lineage.proofs.Numbers.{same_tests}
use Rattle.search.specs.declared.successors.Successors.{Successors}
use Rattle.search.specs.Following.{lists, follows}
use Rattle.search.specs.Rows.{at, Cut}
use Rattle.search.proofs.Taken.{lists_at, at_lists, part_below, part_long, part_at, follows_outside, follows_row}

-- a book's count and derivations, by other names for them
pub valid_as : (b : Book) (count : Count) (n : ℕ) (ds : List Derivation) → count ≡ count_of b → n ≡ models count → ds ≡ standing b → Valid n ds
valid_as b count n ds p q r = subst (λ (m : ℕ). Valid m ds) (sym (q ∙ ap models p)) (subst (Valid (models (count_of b))) (sym r) (valid_book b))

-- the lower of two derivations has no higher first model
lower : (x y : Derivation) → is_lt (by_models x y) ≡ true → x.from ≤ y.from
lower x y h = elim (cases_lt y.from x.from) [
  | inl l ↦ (
      let e : ltb x.from y.from ≡ false = le-ltb x.from y.from (omega arith) in
      let f : eqb x.from y.from ≡ false = ne_eqb x.from y.from (λ g. omega arith) in
      let second = nat_cmp x.to y.to in
      absurd (false≢true (
      sym (ap (λ (b : Bool). is_lt (ordering_then (cond b Less (cond (eqb x.from y.from) Equal Greater)) second)) e ∙ ap (λ (b : Bool). is_lt (ordering_then (cond b Equal Greater) second)) f) ∙ h
      ))
      )
  | inr l ↦ l
]

first_least : (x : Derivation) (xs : List Derivation) → rising by_models (x ∷ xs) ≡ true → (j : ℕ) → j < length xs → x.from ≤ (at xs j).from
first_least x [] h j l = absurd (omega arith)
first_least x (y ∷ ys) h zero l = lower x y (and_parts (is_lt (by_models x y)) (rising by_models (y ∷ ys)) h).0
first_least x (y ∷ ys) h (suc j) l =
    let p = and_parts (is_lt (by_models x y)) (rising by_models (y ∷ ys)) h in
    let a = lower x y p.0 in
    let b = first_least y ys p.1 j (omega arith) in
    omega arith

-- the first models of rising derivations do not fall
pub firsts_rise : (ds : List Derivation) → rising by_models ds ≡ true → (i j : ℕ) → i ≤ j → j < length ds → (at ds i).from ≤ (at ds j).from
firsts_rise [] h i j a l = absurd (omega arith)
firsts_rise (x ∷ xs) h zero zero a l = omega arith
firsts_rise (x ∷ xs) h zero (suc j) a l = first_least x xs h j (omega arith)
firsts_rise (x ∷ xs) h (suc i) zero a l = absurd (omega arith)
firsts_rise (x ∷ xs) h (suc i) (suc j) a l = firsts_rise xs (and_parts (below_first by_models x xs) (rising by_models xs) h).1 i j (omega arith) (omega arith)

module _ (n : ℕ) (ds : List Derivation) (valid : Valid n ds) where
  taken_at : (k : ℕ) → k < length ds → taken_from ds (at ds k).from (at ds k).to ≡ true
  taken_at k l = has_taken ds (at ds k) k l (get_or_default ds k (at ds k) (record { from = 0; to = 0 }) l)

  pub known : (k : ℕ) → k < length ds → ((at ds k).from < n) × ((at ds k).to < n)
  known k l = taken_below n ds (at ds k).from (at ds k).to valid.proper (taken_at k l)

  module _ (starts targets : List ℕ) (cuts : (u : ℕ) → u ≤ n → Cut ds u (get_or starts u 0)) (copied : (k : ℕ) → k < length ds → get_or targets k 0 ≡ (at ds k).to) where
    pub starts_rise : (u : ℕ) → u < n → get_or starts u 0 ≤ get_or starts (u + 1) 0
    starts_rise u l = elim (cases_lt (get_or starts (u + 1) 0) (get_or starts u 0)) [
      | inl h ↦ (
          let a = (cuts u (omega arith)).under (get_or starts (u + 1) 0) h in
          let f = (cuts u (omega arith)).fits in
          let b = (cuts (u + 1) (omega arith)).over (get_or starts (u + 1) 0) (omega arith) (omega arith) in
          absurd (omega arith)
          )
      | inr h ↦ h
    ]

    pub starts_fit : (u : ℕ) → u < n → get_or starts (u + 1) 0 ≤ 2048
    starts_fit u l = let f = (cuts (u + 1) (omega arith)).fits in let g = valid.few in omega arith

    pub targets_known : (u k : ℕ) → u < n → k < get_or starts (u + 1) 0 → get_or targets k 0 < n
    targets_known u k l h =
        let f = (cuts (u + 1) (omega arith)).fits in
        subst (λ (x : ℕ). x < n) (sym (copied k (omega arith))) (known k (omega arith)).1

    -- the row of a model
    pub row_taken : length ds ≤ length targets → (u v : ℕ) → u < n → lists (between (get_or starts u 0) (get_or starts (u + 1) 0) targets) v ≡ taken_from ds u v
    row_taken long u v l =
        let low = get_or starts u 0 in
        let high = get_or starts (u + 1) 0 in
        let low_cut = cuts u (omega arith) in
        let high_cut = cuts (u + 1) (omega arith) in
        let few = high_cut.fits in
        let fits : high ≤ length targets = omega arith in
        same_tests (lists (between low high targets) v) (taken_from ds u v)
        (λ e.
        let r = at_lists (between low high targets) v e in
        let k = r.0 in
        let b : low + k < high = part_below targets low high k r.1 in
        let under = high_cut.under (low + k) b in
        let over = low_cut.over (low + k) (omega arith) (omega arith) in
        let s : (at ds (low + k)).from ≡ u = omega arith in
        let t : (at ds (low + k)).to ≡ v = sym (copied (low + k) (omega arith)) ∙ sym (part_at targets low high k r.1) ∙ r.2 in
        subst (λ (y : ℕ). taken_from ds u y ≡ true) t (subst (λ (x : ℕ). taken_from ds x (at ds (low + k)).to ≡ true) s (taken_at (low + k) (omega arith))))
        (λ e.
        let d : Derivation = record { from = u; to = v } in
        let r = taken_has ds d e in
        let m = r.0 in
        let in_list : m < length ds = r.1 in
        let is : at ds m ≡ d = get_or_default ds m (record { from = 0; to = 0 }) d in_list ∙ r.2 in
        let s : (at ds m).from ≡ u = ap (λ (x : Derivation). x.from) is in
        let a : low ≤ m = elim (cases_lt m low) [ inl h ↦ absurd (let z = low_cut.under m h in omega arith) | inr h ↦ h ] in
        let b : m < high = elim (cases_lt m high) [ inl h ↦ h | inr h ↦ absurd (let z = high_cut.over m h in_list in omega arith) ] in
        let i : low + (m - low) ≡ m = omega arith in
        let k : m - low < length (between low high targets) = part_long targets low high (m - low) fits (omega arith) in
        lists_at (between low high targets) (m - low) v k
        (part_at targets low high (m - low) k ∙ ap (λ (x : ℕ). get_or targets x 0) i ∙ copied m in_list ∙ ap (λ (x : Derivation). x.to) is))

-- successors whose rows are those of a valid book follow as it says
pub follows_book : (ds : List Derivation) (s : Successors) → Valid s.models ds → ((u : ℕ) → u ≤ s.models → Cut ds u (get_or s.starts u 0)) → ((k : ℕ) → k < length ds → get_or s.targets k 0 ≡ (at ds k).to) → length ds ≤ length s.targets → (u v : ℕ) → follows s u v ≡ taken_from ds u v
follows_book ds s valid cuts copied long u v = elim (cases_lt u s.models) [
  | inl l ↦ follows_row s u v l ∙ row_taken s.models ds valid s.starts s.targets cuts copied long u v l
  | inr l ↦ (
      follows_outside s u v l
      ∙ elim (cases_Bool (taken_from ds u v)) [ inl e ↦ absurd (let b = (taken_below s.models ds u v valid.proper e).0 in omega arith) | inr e ↦ sym e ]
      )
]
