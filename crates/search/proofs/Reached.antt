-- Reaching is having a chain of derivations, and marks that a search leaves are those of what is reached.
use Rattle.std.proofs.Common.{◌≡◌, ℕ, ◌<◌, ◌≤◌, Bool, true, false, ◌&&◌, ltb, ◌↔◌, List, get_or, sym, ap, ◌∙◌, subst}
use mathlib.Core.Path.{fun_ext}
use Rattle.std.proofs.lemmas.Bool.{and_parts, and_from, and_left, and_right, ltb-true, lt-ltb, le-ltb}
use Rattle.lineage.specs.Finite.{Chain, none, step, Within}
use Rattle.lineage.specs.Book.{leads}
use Rattle.lineage.proofs.Numbers.{same_tests}
use Rattle.lineage.proofs.Groups.{leads_sound, leads_whole}
use Rattle.search.specs.declared.successors.Successors.{Successors}
use Rattle.search.specs.Following.{follows, reaches}
use Rattle.search.specs.Marks.{Closed}
use Rattle.search.proofs.Taken.{follows_within}
use Rattle.search.proofs.Marks.{chain_marked}

-- a chain from a model comes to a model
pub chain_within : (n : ℕ) (R : ℕ → ℕ → Bool) → Within n R → {u v : ℕ} → Chain R u v → u < n → v < n
chain_within n R within none l = l
chain_within n R within {u} (step {w = w} e c) l = chain_within n R within c (within u w e).1

module _ (s : Successors) where
  pub reaches_chain : (u v : ℕ) → (reaches s u v ≡ true) ↔ ((u < s.models) × Chain (follows s) u v)
  reaches_chain u v = (
    (λ e.
        let p = and_parts (ltb u s.models && ltb v s.models) (leads s.models (follows s) u v) e in
        (ltb-true u s.models (and_parts (ltb u s.models) (ltb v s.models) p.0).0, leads_sound s.models (follows s) (follows_within s) u v p.1)),
    (λ h.
        and_from (ltb u s.models && ltb v s.models) (leads s.models (follows s) u v)
        (and_from (ltb u s.models) (ltb v s.models) (lt-ltb u s.models h.0) (lt-ltb v s.models (chain_within s.models (follows s) (follows_within s) h.1 h.0)))
        (leads_whole s.models (follows s) (follows_within s) h.1)),
  )

  -- the marks of a search that is done
  pub closed_reaches : (u : ℕ) (m : List Bool) → u < s.models → Closed (follows s) u m → (v : ℕ) → get_or m v false ≡ reaches s u v
  closed_reaches u m l c v = same_tests (get_or m v false) (reaches s u v)
      (λ p. (reaches_chain u v).1 (l, c.chained v p))
      (λ e. chain_marked (follows s) m c.closed ((reaches_chain u v).0 e).1 c.start)

  -- nothing is reached from what is no model
  pub reaches_outside : (u v : ℕ) → s.models ≤ u → reaches s u v ≡ false
  reaches_outside u v l = ap (λ (b : Bool). b && ltb v s.models && leads s.models (follows s) u v) (le-ltb u s.models l)

  pub reaches_past : (u v : ℕ) → s.models ≤ v → reaches s u v ≡ false
  reaches_past u v l = and_left (ltb u s.models && ltb v s.models) (leads s.models (follows s) u v) (and_right (ltb u s.models) (ltb v s.models) (le-ltb v s.models l))

  -- an answer that says what is reached, by chains
  pub answer_chain : (b : Bool) (u v : ℕ) → b ≡ reaches s u v → (b ≡ true) ↔ ((u < s.models) × Chain (follows s) u v)
  answer_chain b u v e = ((λ p. (reaches_chain u v).0 (sym e ∙ p)), (λ c. e ∙ (reaches_chain u v).1 c))

-- what is said of successors, by their count and test, holds of the book of n models and the test R that they keep
pub of_book : (P : ℕ → (ℕ → ℕ → Bool) → Type 0) (s : Successors) (n : ℕ) (R : ℕ → ℕ → Bool) → s.models ≡ n → ((u v : ℕ) → follows s u v ≡ R u v) → P s.models (follows s) → P n R
of_book P s n R e h p = subst (λ (m : ℕ). P m R) e (subst (P s.models) (fun_ext (λ u. fun_ext (h u))) p)
