-- The halving search ends within the list, and in a rising list it finds where a key stands or would go.
use Rattle.std.proofs.Common.{◌≡◌, ℕ, zero, suc, ◌+◌, ◌-◌, ◌<◌, ◌≤◌, Bool, true, false, cond, ltb, List, length, get_or, Ok, Err, Result, Ordering, Less, Equal, Greater, sym, refl, ap, ◌∙◌, arith}
use Rattle.std.proofs.lemmas.List.{get_or_read}
use Rattle.std.proofs.lemmas.Bool.{ltb-true, ltb-false, lt-ltb, le-ltb}
use Rattle.std.specs.Ordering.{match_ordering}
use Rattle.std.proofs.lemmas.Grind.{common_steps}
use Rattle.rising.specs.Order.{Order}
use Rattle.rising.specs.Lists.{place, stands, sought}
use Rattle.rising.specs.Halving.{middle, halve, halving}
use Rattle.rising.proofs.Place.{Rises, place_within, stands_within, above_place, below_place, at_place}

-- an end of the search, as `sought` has it
found : (b : Bool) (i at : ℕ) → b ≡ true → at ≡ i → ◌≡◌ {A = Result ℕ ℕ} (Ok i) (cond b (Ok at) (Err at))
found b i at h e = grind (arith, common_steps)

missed : (b : Bool) (i at : ℕ) → (b ≡ true → ⊥) → at ≡ i → ◌≡◌ {A = Result ℕ ℕ} (Err i) (cond b (Ok at) (Err at))
missed b i at h e = grind (arith, common_steps)

module _ {K : Type 0} (cmp : K → K → Ordering) where
  -- how the key that was read compares
  pub read_cmp : (xs : List K) (i : ℕ) (x k : K) (o : Ordering) → i < length xs → x ≡ get_or xs i x → o ≡ cmp x k → cmp (get_or xs i k) k ≡ o
  read_cmp xs i x k o h r e = ap (λ (y : K). cmp y k) (sym (get_or_read xs i x h r k)) ∙ sym e

  -- one turn: the search goes on above the middle, below it, or ends at it
  pub on_less : (turns : ℕ) (xs : List K) (k : K) (low high : ℕ) (v : Result ℕ ℕ) → low < high → high - low ≤ turns → cmp (get_or xs (middle low high) k) k ≡ Less → halve cmp turns xs k low high ≡ v → (t : ℕ) × (high - (middle low high + 1) ≤ t) × (halve cmp t xs k (middle low high + 1) high ≡ v)
  on_less zero xs k low high v l h e w = absurd (omega arith)
  on_less (suc t) xs k low high v l h e w = (t, omega arith, rw (lt-ltb low high l, e) at w)

  pub on_greater : (turns : ℕ) (xs : List K) (k : K) (low high : ℕ) (v : Result ℕ ℕ) → low < high → high - low ≤ turns → cmp (get_or xs (middle low high) k) k ≡ Greater → halve cmp turns xs k low high ≡ v → (t : ℕ) × (middle low high - low ≤ t) × (halve cmp t xs k low (middle low high) ≡ v)
  on_greater zero xs k low high v l h e w = absurd (omega arith)
  on_greater (suc t) xs k low high v l h e w = (t, omega arith, rw (lt-ltb low high l, e) at w)

  pub on_equal : (turns : ℕ) (xs : List K) (k : K) (low high : ℕ) (v : Result ℕ ℕ) → low < high → high - low ≤ turns → cmp (get_or xs (middle low high) k) k ≡ Equal → halve cmp turns xs k low high ≡ v → Ok (middle low high) ≡ v
  on_equal zero xs k low high v l h e w = absurd (omega arith)
  on_equal (suc t) xs k low high v l h e w = rw (lt-ltb low high l, e) at w

  pub at_end : (turns : ℕ) (xs : List K) (k : K) (low high : ℕ) (v : Result ℕ ℕ) → high ≤ low → halve cmp turns xs k low high ≡ v → Err low ≡ v
  at_end zero xs k low high v l w = w
  at_end (suc t) xs k low high v l w = rw (le-ltb low high l) at w

  -- where the place of k lies while the search goes on
  pub record Between (xs : List K) (k : K) (low high : ℕ) : Type 0 where
    pub from : low ≤ place cmp xs k
    pub to : place cmp xs k ≤ high
    pub before : stands cmp xs k ≡ true → place cmp xs k < high

  module _ (order : Order cmp) (xs : List K) (k : K) (up : Rises cmp xs) where
    halve_seeks : (turns low high : ℕ) → low ≤ high → high ≤ length xs → high - low ≤ turns → Between xs k low high → halve cmp turns xs k low high ≡ sought cmp xs k
    halve_seeks zero low high a b c w =
        missed (stands cmp xs k) low (place cmp xs k) (λ s. let l = w.before s in omega arith) (omega arith)
    halve_seeks (suc turns) low high a b c w =
        let mid : ℕ = middle low high in
        let key : K = get_or xs mid k in
        (elim (ltb low high) as (λ t. ltb low high ≡ t → cond t (match_ordering (cmp key k) (halve cmp turns xs k (mid + 1) high) (Ok mid) (halve cmp turns xs k low mid)) (Err low) ≡ sought cmp xs k) [
          | true ↦ (λ t.
              let l : low < high = ltb-true low high t in
              let i : mid < length xs = omega arith in
              (elim (cmp key k) as (λ q. cmp key k ≡ q → match_ordering q (halve cmp turns xs k (mid + 1) high) (Ok mid) (halve cmp turns xs k low mid) ≡ sought cmp xs k) [
                | Less ↦ (λ e. let m = below_place cmp order xs k mid k up i e in halve_seeks turns (mid + 1) high (omega arith) b (omega arith) (record { from = omega arith; to = w.to; before = w.before }))
                | Equal ↦ (λ e. let m = at_place cmp order xs k mid k up i e in found (stands cmp xs k) mid (place cmp xs k) m.1 m.0)
                | Greater ↦ (λ e. let m = above_place cmp xs k mid k up i e in halve_seeks turns low mid (omega arith) (omega arith) (omega arith) (record { from = w.from; to = m.0; before = m.1 }))
              ]) refl)
          | false ↦ (λ t. let f : high ≤ low = ltb-false low high t in missed (stands cmp xs k) low (place cmp xs k) (λ s. let l = w.before s in omega arith) (omega arith))
        ]) refl

    pub seeks : halving cmp xs k ≡ sought cmp xs k
    seeks = halve_seeks (length xs) 0 (length xs) (omega arith) (omega arith) (omega arith) (record { from = omega arith; to = place_within cmp xs k; before = stands_within cmp xs k })
