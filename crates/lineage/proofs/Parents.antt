-- Tree parents found by going down over the candidates, and the groups that have one. Assumes nothing.
use Rattle.std.proofs.Common.{◌≡◌, ℕ, ◌+◌, ◌<◌, ◌≤◌, Bool, true, false, ltb, sym, ◌∙◌, subst, inl, inr, arith}
use Rattle.std.proofs.lemmas.Bool.{cases_lt, cases_eq, true≢false, ltb-true, lt-ltb}
use Rattle.lineage.specs.Finite.{any, least, Within}
use Rattle.lineage.specs.Book.{arc, parent}
use Rattle.lineage.proofs.Numbers.{any_hit, any_some, least_is, same_tests}
use Rattle.lineage.proofs.Tree.{parent_arc, parent_in}

-- x is the least number from i on below n that passes the test p, or n
pub record LeastPassing (n : ℕ) (p : ℕ → Bool) (i x : ℕ) : Type 0 where
  pub within : x ≤ n
  pub under : (k : ℕ) → i ≤ k → k < x → p k ≡ false
  pub hit : x < n → p x ≡ true

pub from_none : (n : ℕ) (p : ℕ → Bool) → LeastPassing n p n n
from_none n p = record { within = omega arith; under = λ k a b. absurd (omega arith); hit = λ h. absurd (omega arith) }

pub from_hit : (n : ℕ) (p : ℕ → Bool) (i : ℕ) → i < n → p i ≡ true → LeastPassing n p i i
from_hit n p i l e = record { within = omega arith; under = λ k a b. absurd (omega arith); hit = λ h. e }

pub from_miss : (n : ℕ) (p : ℕ → Bool) (i x : ℕ) → p i ≡ false → LeastPassing n p (i + 1) x → LeastPassing n p i x
from_miss n p i x e f = record {
  within = f.within;
  under = λ k a b. elim (cases_eq k i) [ inl s ↦ subst (λ (z : ℕ). p z ≡ false) (sym s) e | inr ne ↦ f.under k (omega arith) b ];
  hit = f.hit;
}

pub least_same : (n : ℕ) (p : ℕ → Bool) (x : ℕ) → LeastPassing n p 0 x → x ≡ least n p
least_same n p x f =
    let l = least_is n p in
    let a : least n p ≤ n = l.within in
    let b : x ≤ n = f.within in
    elim (cases_lt x (least n p)) [
      | inl h ↦ absurd (true≢false (sym (f.hit (omega arith)) ∙ l.under x h))
      | inr h ↦ elim (cases_lt (least n p) x) [
        | inl g ↦ absurd (true≢false (sym (l.hit (omega arith)) ∙ f.under (least n p) (omega arith) g))
        | inr g ↦ omega arith
      ]
    ]

pub parent_least : (n : ℕ) (R : ℕ → ℕ → Bool) (b x : ℕ) → LeastPassing n (λ a. arc n R a b) 0 x → x ≡ parent n R b
unfolding parent
parent_least n R b x f = least_same n (λ a. arc n R a b) x f

-- a group has an arc in exactly if it has a parent
pub has_parent : (n : ℕ) (R : ℕ → ℕ → Bool) → Within n R → (b : ℕ) → ltb (parent n R b) n ≡ any n (λ a. arc n R a b)
has_parent n R within b = same_tests (ltb (parent n R b) n) (any n (λ a. arc n R a b))
    (λ e. let l = ltb-true (parent n R b) n e in any_hit n (λ a. arc n R a b) (parent n R b) l (parent_arc n R within b l))
    (λ e. let x = any_some n (λ a. arc n R a b) e in lt-ltb (parent n R b) n (parent_in n R within x.0 b x.1 x.2))
