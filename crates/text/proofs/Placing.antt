-- Texts placed into a buffer: one behind another, copied in, and what stands there after.
use Rattle.std.proofs.Common.{◌≡◌, ℕ, ◌+◌, ◌-◌, ◌<◌, ◌≤◌, List, [], ◌∷◌, ◌++◌, length, take, drop, set, sym, refl, ap, ◌∙◌, append_assoc, add-one, arith}
use Rattle.std.proofs.lemmas.List.{length-take-le, set-append_right, drop_more, length_push, take-append-drop, drop_at, set_split, length-append, length-drop, take_at, take_all, take_rest, drop_all, drop-drop, append-nil}
use Rattle.std.proofs.lemmas.Slice.{put_mid-paste}
use borrow.Rule.Slice.PartMut.{put_mid}
use Rattle.text.specs.Placing.{placed}

-- one more byte behind a text that was placed
pub placed_more : (d : List ℕ) (at : ℕ) (s : List ℕ) (c : ℕ) → at + length s < length d
    → set (placed d at s) (at + length s) c ≡ placed d at (s ++ (c ∷ []))
placed_more d at s c h =
    let l : length (take at d) ≡ at = length-take-le at d (omega arith) in
    let one = set-append_right (take at d) (s ++ drop (at + length s) d) at (at + length s) c l (omega arith) in
    let z : at + length s - at ≡ length s = omega arith in
    let two = set-append_right s (drop (at + length s) d) (length s) (length s) c refl (omega arith) in
    let zz : length s - length s ≡ 0 = omega arith in
    let three : set (drop (at + length s) d) 0 c ≡ c ∷ drop (at + length s + 1) d
    = ap (λ xs. set xs 0 c) (drop_more d (at + length s) 0 h) in
    let len : at + length (s ++ (c ∷ [])) ≡ at + length s + 1 = omega (arith, length_push s c) in
    let four : s ++ (c ∷ drop (at + length s + 1) d) ≡ (s ++ (c ∷ [])) ++ drop (at + length (s ++ (c ∷ []))) d
    = ap (λ n. s ++ (c ∷ drop n d)) (sym len) ∙ sym (append_assoc s (c ∷ []) (drop (at + length (s ++ (c ∷ []))) d)) in
    one ∙ ap (λ n. take at d ++ set (s ++ drop (at + length s) d) n c) z
    ∙ ap (λ xs. take at d ++ xs) (two ∙ ap (λ n. s ++ set (drop (at + length s) d) n c) zz ∙ ap (λ xs. s ++ xs) three ∙ four)

pub placed_none : (d : List ℕ) (at : ℕ) → d ≡ placed d at []
placed_none d at =
    let z : at ≡ at + 0 = omega arith in
    sym (take-append-drop at d) ∙ ap (λ k. take at d ++ drop k d) z

pub placed_one : (d : List ℕ) (at c : ℕ) → at < length d → set d at c ≡ placed d at (c ∷ [])
placed_one d at c h = rw add-one (set_split d at c h)

-- what stands from the text on
pub drop_placed : (d : List ℕ) (at : ℕ) (s : List ℕ) → at ≤ length d → drop at (placed d at s) ≡ s ++ drop (at + length s) d
drop_placed d at s h = drop_at (take at d) (s ++ drop (at + length s) d) at (length-take-le at d h)

pub length_placed : (d : List ℕ) (at : ℕ) (s : List ℕ) → at + length s ≤ length d → length (placed d at s) ≡ length d
length_placed d at s h = omega (
  arith,
  length-append (take at d) (s ++ drop (at + length s) d),
  length-append s (drop (at + length s) d),
  length-take-le at d (omega arith),
  length-drop (at + length s) d,
)

-- one text behind another
pub placed_append : (d : List ℕ) (at : ℕ) (s t : List ℕ) → at + length s ≤ length d
    → placed (placed d at s) (at + length s) t ≡ placed d at (s ++ t)
placed_append d at s t h =
    let m : ℕ = at + length s in
    let whole : placed d at s ≡ (take at d ++ s) ++ drop m d = sym (append_assoc (take at d) s (drop m d)) in
    let l : length (take at d ++ s) ≡ m = omega (arith, length-append (take at d) s, length-take-le at d (omega arith)) in
    let tk : take m (placed d at s) ≡ take at d ++ s = ap (take m) whole ∙ take_at (take at d ++ s) (drop m d) m l in
    let dm : drop m (placed d at s) ≡ drop m d = ap (drop m) whole ∙ drop_at (take at d ++ s) (drop m d) m l in
    let dr : drop (m + length t) (placed d at s) ≡ drop (m + length t) d
    = sym (drop-drop (length t) m (placed d at s)) ∙ ap (drop (length t)) dm ∙ drop-drop (length t) m d in
    let n : m + length t ≡ at + length (s ++ t) = omega (arith, length-append s t) in
    ap (λ xs. xs ++ (t ++ drop (m + length t) (placed d at s))) tk
    ∙ ap (λ xs. (take at d ++ s) ++ (t ++ xs)) (dr ∙ ap (λ k. drop k d) n)
    ∙ append_assoc (take at d) s (t ++ drop (at + length (s ++ t)) d)
    ∙ ap (λ xs. take at d ++ xs) (sym (append_assoc s t (drop (at + length (s ++ t)) d)))

-- three texts in a row, from the front
pub placed_three : (d0 d1 d2 d3 u v w : List ℕ) (at end r : ℕ)
    → d1 ≡ placed d0 0 u → at ≡ 0 + length u → d2 ≡ placed d1 at v → end ≡ at + length v → d3 ≡ placed d2 end w → r ≡ end + length w
    → length u + length v ≤ length d0
    → (r ≡ length (u ++ (v ++ w))) × (d3 ≡ placed d0 0 (u ++ (v ++ w)))
placed_three d0 d1 d2 d3 u v w at end r e1 l1 e2 l2 e3 l3 h =
    let two : d2 ≡ placed d0 0 (u ++ v)
    = e2 ∙ ap (λ x. placed x at v) e1 ∙ ap (λ k. placed (placed d0 0 u) k v) l1 ∙ placed_append d0 0 u v (omega arith) in
    let uv : length (u ++ v) ≡ length u + length v = length-append u v in
    let l : end ≡ 0 + length (u ++ v) = omega arith in
    let three : d3 ≡ placed d0 0 ((u ++ v) ++ w)
    = e3 ∙ ap (λ x. placed x end w) two ∙ ap (λ k. placed (placed d0 0 (u ++ v)) k w) l ∙ placed_append d0 0 (u ++ v) w (omega arith) in
    (omega (arith, length-append u (v ++ w), length-append v w), three ∙ ap (placed d0 0) (append_assoc u v w))

-- a text copied into its place
pub placed_copy : (d : List ℕ) (at k : ℕ) (s ys : List ℕ) → ys ≡ s → k ≡ length s → put_mid at k d ys ≡ placed d at s
placed_copy d at k s ys e l =
    put_mid-paste at k d ys s (length s) e (sym l) refl
    ∙ append_assoc (take at d) (take (length s) s) (drop (at + length s) d)
    ∙ ap (λ xs. take at d ++ (xs ++ drop (at + length s) d)) (take_all (length s) s (omega arith))

-- a text placed at the front of the part from `at` on
pub placed_part : (d : List ℕ) (at : ℕ) (s ys : List ℕ) → at + length s ≤ length d → ys ≡ placed (take (length d - at) (drop at d)) 0 s
    → put_mid at (length d - at) d ys ≡ placed d at s
placed_part d at s ys h e =
    let front : ys ≡ placed (drop at d) 0 s = e ∙ ap (λ xs. placed xs 0 s) (take_rest d at) in
    let l : length (drop at d) ≡ length d - at = length-drop at d in
    let len : length ys ≡ length d - at = ap length front ∙ length_placed (drop at d) 0 s (omega arith) ∙ l in
    let none : drop (at + length ys) d ≡ [] = drop_all (at + length ys) d (omega arith) in
    let n : at + (0 + length s) ≡ at + length s = omega arith in
    let behind : ys ≡ s ++ drop (at + length s) d = front ∙ ap (λ xs. s ++ xs) (drop-drop (0 + length s) at d ∙ ap (λ k. drop k d) n) in
    placed_copy d at (length d - at) ys ys refl (sym len) ∙ ap (λ xs. take at d ++ (ys ++ xs)) none
    ∙ ap (λ xs. take at d ++ xs) (append-nil ys ∙ behind)

-- and that part as it was
pub part_untouched : (d : List ℕ) (at : ℕ) (ys : List ℕ) → at ≤ length d → ys ≡ take (length d - at) (drop at d) → put_mid at (length d - at) d ys ≡ d
part_untouched d at ys h e = placed_part d at [] ys (omega arith) (e ∙ placed_none (take (length d - at) (drop at d)) 0) ∙ sym (placed_none d at)
