-- What a turn by one of a part of a list leaves, as a key that is inserted or removed.
use Rattle.std.proofs.Common.{◌≡◌, ℕ, zero, suc, pred, ◌+◌, ◌-◌, ◌<◌, ◌≤◌, List, [], ◌∷◌, ◌++◌, length, get_or, take, drop, set, sym, refl, ap, ◌∙◌, append_assoc, add-one, arith}
use borrow.Rule.Slice.PartMut.{put_mid}
use Rattle.std.specs.List.{insert, remove}
use Rattle.std.proofs.lemmas.List.{take_more_set, drop_at, take_at, length-take-le, drop-set-lt, drop_more, set_at}
use Rattle.std.proofs.lemmas.List.Edits.{length-remove}

module _ {X : Type 0} where
  opened_front : (s : List X) (n : ℕ) (x : X) → n < length s → (drop n (take (n + 1) (set s n x)) ++ take n (take (n + 1) (set s n x))) ++ drop (n + 1) (set s n x) ≡ (x ∷ take n s) ++ drop (suc n) s
  opened_front s n x h =
      let e : length (take n s) ≡ n = length-take-le n s (omega arith) in
      rw (take_more_set s n x h, drop_at (take n s) (x ∷ []) n e, take_at (take n s) (x ∷ []) n e, add-one, drop-set-lt (suc n) s n x (omega arith)) refl

  -- x written behind the first len, and the part from `at` on turned to the right
  pub opened : (s : List X) (at len k n : ℕ) (x : X) → k + at ≡ len + 1 → n + 1 ≡ k → len < length s → put_mid at k (set s len x) (drop n (take k (drop at (set s len x))) ++ take n (take k (drop at (set s len x)))) ≡ insert (take len s) at x ++ drop (suc len) s
  opened s zero len k n x e f h =
      let p : n ≡ len = omega arith in
      let q : k ≡ len + 1 = omega arith in
      rw (q, p) (opened_front s len x h)
  opened [] (suc at) len k n x e f h = absurd (omega arith)
  opened (z ∷ s) (suc at) zero k n x e f h = absurd (omega arith)
  opened (z ∷ s) (suc at) (suc len) k n x e f h = ap (λ (t : List X). z ∷ t) (opened s at len k n x (omega arith) f (omega arith))

  -- the part from `at` on turned to the left: what stood at `at` comes behind the others
  pub turned : (s : List X) (at len k : ℕ) (d : X) → k + at ≡ len → 0 < k → len ≤ length s → put_mid at k s (drop 1 (take k (drop at s)) ++ take 1 (take k (drop at s))) ≡ remove (take len s) at ++ get_or s at d ∷ drop len s
  turned [] at len k d e f h = absurd (omega arith)
  turned (z ∷ s) zero zero k d e f h = absurd (omega arith)
  turned (z ∷ s) zero (suc len) k d e f h =
      let p : k ≡ suc len = omega arith in
      rw p (append_assoc (take len s) (z ∷ []) (drop len s))
  turned (z ∷ s) (suc at) zero k d e f h = absurd (omega arith)
  turned (z ∷ s) (suc at) (suc len) k d e f h = ap (λ (t : List X). z ∷ t) (turned s at len k d (omega arith) f (omega arith))

  -- and the last place with what stood there before
  pub closed : (s part : List X) (at len : ℕ) (last : X) → at < len → len ≤ length s → part ≡ drop 1 (take (len - at) (drop at s)) ++ take 1 (take (len - at) (drop at s)) → last ≡ get_or s (len - 1) last → set (put_mid at (len - at) s part) (len - 1) last ≡ remove (take len s) at ++ drop (pred len) s
  closed s part at len last a b e i =
      let l : length (take len s) ≡ len = length-take-le len s b in
      let n : length (remove (take len s) at) ≡ len - 1 = omega (arith, length-remove (take len s) at (omega arith)) in
      let p : len - 1 ≡ pred len = omega arith in
      let q : len - 1 + 1 ≡ len = omega arith in
      ap (λ (ys : List X). set (put_mid at (len - at) s ys) (len - 1) last) e
      ∙ ap (λ (ys : List X). set ys (len - 1) last) (turned s at len (len - at) last (omega arith) (omega arith) b)
      ∙ set_at (remove (take len s) at) (get_or s at last) (drop len s) last (len - 1) n
      ∙ ap (λ (ys : List X). remove (take len s) at ++ ys) (
      ap (λ (y : X). y ∷ drop len s) i ∙ ap (λ (j : ℕ). get_or s (len - 1) last ∷ drop j s) (sym q) ∙ sym (drop_more s (len - 1) last (omega arith)) ∙ ap (λ (j : ℕ). drop j s) p
      )
