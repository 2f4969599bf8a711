-- For kinds of index: when the rule refuses, and when it does not; and a meaning given by leads-to.
use Rattle.std.proofs.Common.{◌≡◌, ℕ, ◌<◌, ◌≤◌, Bool, ◌&&◌, ltb, Some, None, sym, refl, ◌∙◌}
use Rattle.std.proofs.lemmas.Bool.{lt-ltb, le-ltb, and_parts, and_from}
use Rattle.lineage.specs.Finite.{Within}
use Rattle.lineage.specs.Book.{leads, surplus}
use Rattle.lineage.proofs.Groups.{leads_sound, leads_whole}
use Rattle.index.specs.declared.fault.IndexFault.TheVariants.{WorkTooShort, TooMuchSurplus}
use Rattle.index.specs.Meanings.{over, Means}
use Rattle.index.specs.Builds.{rule}

module _ (capacity n : ℕ) (R : ℕ → ℕ → Bool) (k : ℕ) where
  pub rule_short : k < 32768 → rule capacity n R k ≡ Some WorkTooShort
  unfolding rule
  rule_short h = rw (lt-ltb k 32768 h) refl

  pub rule_over : 32768 ≤ k → capacity < surplus n R → rule capacity n R k ≡ Some (TooMuchSurplus (surplus n R) capacity)
  unfolding rule
  rule_over h s = rw (le-ltb k 32768 h, lt-ltb capacity (surplus n R) s) refl

  pub rule_none : 32768 ≤ k → surplus n R ≤ capacity → rule capacity n R k ≡ None
  unfolding rule
  rule_none h s = rw (le-ltb k 32768 h, le-ltb capacity (surplus n R) s) refl

-- an index whose relation is leads-to, on the models below n, means the book
pub means_leads : (n : ℕ) (R S : ℕ → ℕ → Bool) → Within n R → ((u v : ℕ) → u < n → v < n → S u v ≡ leads n R u v) → Means (over n S) n R
means_leads n R S within same =
    record {
      count = refl;
      leads = λ u v h k. (
        (λ t. leads_sound n R within u v (sym (same u v h k) ∙ (and_parts (ltb u n && ltb v n) (S u v) t).1)),
        (λ c. and_from (ltb u n && ltb v n) (S u v) (and_from (ltb u n) (ltb v n) (lt-ltb u n h) (lt-ltb v n k)) (same u v h k ∙ leads_whole n R within c)),
      );
    }
