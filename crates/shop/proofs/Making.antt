-- A run, call by call; and two runs over the same calls.
use Rattle.std.proofs.Common.{◌≡◌, ℕ, ◌+◌, ◌-◌, ◌<◌, ◌≤◌, min, Bool, true, false, cond, leb, List, [], ◌∷◌, ◌++◌, map, reverse, length, get_or, take, drop, set, Some, sym, refl, ap, ◌∙◌, subst, inl, inr, append_assoc, arith}
use mathlib.Core.Path.{fun_ext}
use mathlib.Core.List.{reverse-cons}
use Rattle.std.proofs.lemmas.Bool.{cases_lt, cond-true, cond-false, le-leb, lt-leb}
use Rattle.std.proofs.lemmas.List.{reverse-append, length-reverse, length-map, take_more, take_all, take-take, drop_more, set-append_right, take-append-drop, take_at, length-take, get_or-take}
use Rattle.lineage.specs.Lists.{◌∈◌}
use Rattle.index.specs.Builds.{rule}
use Rattle.index.specs.Meanings.{Meaning}
use Rattle.history.specs.declared.call.Call.{Call}
use Rattle.history.specs.Answers.{Answer, told}
use Rattle.history.specs.Events.{History}
use Rattle.history.specs.Table.{Refuses}
use Rattle.history.specs.Laws.{LawfulHistory}
use Rattle.history.specs.Theorems.{calls, answers}
use Rattle.history.proofs.LastCall.{in_reverse}
use Rattle.history.proofs.Histories.{kinds_agree}
use Rattle.history.proofs.Made.{lawful_law, law_lawful}
use Rattle.shop.specs.declared.running.Shop.{Shop}
use Rattle.shop.specs.Shops.{Follows, Keeps}
use Rattle.shop.specs.Runs.{asks_for, fitting, Ran, NoneForSurplus, Agree}

-- calls that fit the work space

fits_head : (b : Bool) (c : Call) (xs ys : List Call) → cond b (c ∷ ys) [] ≡ c ∷ xs → (b ≡ true) × (ys ≡ xs)
fits_head true c xs ys e = (refl, cc)
fits_head false c xs ys e = cc

module _ (lent : ℕ) where
  fitting_ends : (xs : List Call) (c : Call) (ys : List Call) → fitting lent xs ≡ xs → lent < asks_for c → fitting lent (xs ++ c ∷ ys) ≡ xs
  fitting_ends [] c ys e h = cond-false (leb (asks_for c) lent) (c ∷ fitting lent ys) [] (lt-leb (asks_for c) lent h)
  fitting_ends (x ∷ xs) c ys e h =
      let p = fits_head (leb (asks_for x) lent) x xs (fitting lent xs) e in
      cond-true (leb (asks_for x) lent) (x ∷ fitting lent (xs ++ c ∷ ys)) [] p.0 ∙ ap (λ (zs : List Call). x ∷ zs) (fitting_ends xs c ys p.1 h)

  fitting_more : (xs : List Call) (c : Call) → fitting lent xs ≡ xs → asks_for c ≤ lent → fitting lent (xs ++ c ∷ []) ≡ xs ++ c ∷ []
  fitting_more [] c e h = cond-true (leb (asks_for c) lent) (c ∷ []) [] (le-leb (asks_for c) lent h)
  fitting_more (x ∷ xs) c e h =
      let p = fits_head (leb (asks_for x) lent) x xs (fitting lent xs) e in
      cond-true (leb (asks_for x) lent) (x ∷ fitting lent (xs ++ c ∷ [])) [] p.0 ∙ ap (λ (zs : List Call). x ∷ zs) (fitting_more xs c p.1 h)

-- the first i calls were made on the shop s, and `is` has their answers
pub record Running {X : Type 0} (meaning : X → Meaning) (refuses : X → Refuses) (n : ℕ) (owed : Refuses) (lent : ℕ) (cs : List Call) (was : List Answer) (s : Shop X) (is : List Answer) (i : ℕ) : Type 0 where
  pub history : History
  pub follows : Follows meaning refuses n owed history s
  pub calls : calls history ≡ reverse (take i cs)
  pub answers : is ≡ reverse (answers history) ++ drop i was
  pub many : length history ≡ i
  pub fits : fitting lent (take i cs) ≡ take i cs

module _ {X : Type 0} {meaning : X → Meaning} {refuses : X → Refuses} {n : ℕ} {owed : Refuses} {lent : ℕ} {cs : List Call} {was : List Answer} where
  pub running_none : {s : Shop X} → Follows meaning refuses n owed [] s → Running meaning refuses n owed lent cs was s was 0
  running_none f = record { history = []; follows = f; calls = refl; answers = refl; many = refl; fits = refl }

  module _ {s : Shop X} {is : List Answer} {i : ℕ} (r : Running meaning refuses n owed lent cs was s is i) where
    pub running_more : {c : Call} {a : Answer} {t : Shop X} (d : Call) → get_or cs i d ≡ c → i < length cs → i < length was → asks_for c ≤ lent → Keeps meaning refuses s c a t
        → Running meaning refuses n owed lent cs was t (set is i a) (i + 1)
    running_more {c} {a} d e small room asks keeps =
        let more : take (i + 1) cs ≡ take i cs ++ c ∷ [] = take_more cs i d small ∙ ap (λ (x : Call). take i cs ++ x ∷ []) e in
        let answered : length (reverse (answers r.history)) ≡ i = length-reverse (answers r.history) ∙ length-map r.history (λ (made : Call × Answer). made.1) ∙ r.many in
        record {
          history = (c, a) ∷ r.history;
          follows = keeps.follows n owed r.history r.follows;
          calls = ap (λ (xs : List Call). c ∷ xs) r.calls ∙ sym (ap reverse more ∙ reverse-append (take i cs) (c ∷ []));
          answers =
              ap (λ (xs : List Answer). set xs i a) (r.answers ∙ ap (λ (xs : List Answer). reverse (answers r.history) ++ xs) (drop_more was i a room))
              ∙ set-append_right (reverse (answers r.history)) (get_or was i a ∷ drop (i + 1) was) i i a answered (omega arith)
              ∙ ap (λ (k : ℕ). reverse (answers r.history) ++ set (get_or was i a ∷ drop (i + 1) was) k a) (let z : i - i ≡ 0 = omega arith in z)
              ∙ sym (ap (λ (xs : List Answer). xs ++ drop (i + 1) was) (reverse-cons a (answers r.history)) ∙ append_assoc (reverse (answers r.history)) (a ∷ []) (drop (i + 1) was));
          many = omega (arith, r.many);
          fits = ap (fitting lent) more ∙ fitting_more lent (take i cs) c r.fits asks ∙ sym more;
        }

    module _ (capacity : ℕ) (ruled : owed ≡ rule capacity) where
      ran : fitting lent (take (length was) cs) ≡ take i cs → Ran capacity n lent cs was i is
      ran e = record {
        history = r.history;
        calls = r.calls ∙ ap reverse (sym e);
        many = r.many;
        answers = r.answers;
        law = lawful_law n capacity r.history (subst (λ (o : Refuses). LawfulHistory n o r.history) ruled r.follows.lawful);
      }

      -- the run ended at a call that asks for too much
      pub ran_short : {c : Call} (d : Call) → get_or cs i d ≡ c → i < length cs → i < length was → lent < asks_for c → Ran capacity n lent cs was i is
      ran_short {c} d e small room asks =
          let inside : i < length (take (length was) cs) = rw length-take (omega arith) in
          let split : take (length was) cs ≡ take i cs ++ c ∷ drop (i + 1) (take (length was) cs) =
          sym (take-append-drop i (take (length was) cs))
          ∙ ap (λ (xs : List Call). xs ++ drop i (take (length was) cs)) (take-take i (length was) cs (omega arith))
          ∙ ap (λ (xs : List Call). take i cs ++ xs) (drop_more (take (length was) cs) i d inside ∙ ap (λ (x : Call). x ∷ drop (i + 1) (take (length was) cs)) (get_or-take (length was) cs i d room ∙ e)) in
          ran (ap (fitting lent) split ∙ fitting_ends lent (take i cs) c (drop (i + 1) (take (length was) cs)) r.fits asks)

      -- or with the calls, or with the places
      pub ran_all : i ≡ min (length cs) (length was) → Ran capacity n lent cs was i is
      ran_all e = ran (ap (fitting lent) whole ∙ r.fits)
        where
          whole : take (length was) cs ≡ take i cs
          whole =
              elim (cases_lt (length was) (length cs)) [
                | inl l ↦ ap (λ (k : ℕ). take k cs) (omega arith)
                | inr l ↦ take_all (length was) cs l ∙ sym (take_all i cs (omega arith))
              ]

-- the rule of every index of a kind is its capacity's
pub ruled_by : {X : Type 0} (refuses : X → Refuses) (capacity : ℕ) (i : X) → ((s : X) (n : ℕ) (R : ℕ → ℕ → Bool) (k : ℕ) → refuses s n R k ≡ rule capacity n R k) → refuses i ≡ rule capacity
ruled_by refuses capacity i rules = fun_ext (λ n. fun_ext (λ R. fun_ext (λ k. rules i n R k)))

-- two runs over the same calls, which have places among both answers

-- the calls and the answers of a run, of calls that all have places
module _ {capacity n lent : ℕ} {cs : List Call} {was : List Answer} {k : ℕ} {is : List Answer} (r : Ran capacity n lent cs was k is) (room : length cs ≤ length was) where
  ran_calls : calls r.history ≡ reverse (fitting lent cs)
  ran_calls = r.calls ∙ ap (λ (xs : List Call). reverse (fitting lent xs)) (take_all (length was) cs room)

  ran_many : k ≡ length (fitting lent cs)
  ran_many = sym r.many ∙ sym (length-map r.history (λ (made : Call × Answer). made.0)) ∙ ap length ran_calls ∙ length-reverse (fitting lent cs)

  ran_answers : take k is ≡ reverse (answers r.history)
  ran_answers =
      ap (take k) r.answers
      ∙ take_at (reverse (answers r.history)) (drop k was) k (length-reverse (answers r.history) ∙ length-map r.history (λ (made : Call × Answer). made.1) ∙ r.many)

  ran_never : NoneForSurplus (take k is) → (a : Answer) → a ∈ answers r.history → (told a).number ≡ Some 8 → ⊥
  ran_never none a i = none a (subst (λ (xs : List Answer). a ∈ xs) (sym ran_answers) (in_reverse a (answers r.history) i))

module _ {c d n lent : ℕ} {cs : List Call} {was others : List Answer} {k j : ℕ} {is js : List Answer} (r : Ran c n lent cs was k is) (q : Ran d n lent cs others j js) (room : length cs ≤ length was) (space : length cs ≤ length others) where
  pub ran_alike : j ≡ k
  ran_alike = ran_many q space ∙ sym (ran_many r room)

  same : NoneForSurplus (take k is) → NoneForSurplus (take k js) → take k is ≡ take k js
  same x y =
      let also : NoneForSurplus (take j js) = rw ran_alike y in
      let e = kinds_agree n c d (rule c) (rule d) r.history q.history (λ m R w. refl) (λ m R w. refl) (ran_calls r room ∙ sym (ran_calls q space))
      (law_lawful n c r.history r.law) (law_lawful n d q.history q.law) (ran_never r room x) (ran_never q space also) in
      ran_answers r room ∙ ap reverse e.values ∙ sym (ran_answers q space) ∙ ap (λ (m : ℕ). take m js) ran_alike

  pub ran_agree : Agree k is js
  ran_agree = record { values = same; told = λ x y. ap (map told) (same x y) }

-- as many calls as have places, cut twice
pub take_cut : {A : Type 0} (k : ℕ) (xs : List A) → take (min k (length xs)) xs ≡ take k xs
take_cut k xs =
    elim (cases_lt k (length xs)) [
      | inl l ↦ ap (λ (m : ℕ). take m xs) (omega arith)
      | inr l ↦ take_all (min k (length xs)) xs (omega arith) ∙ sym (take_all k xs l)
    ]
