-- Successors that follow a book's derivations mean the book, and plain search over them shows it.
use Rattle.std.proofs.Common.{◌≡◌, ℕ, zero, suc, ◌<◌, Bool, Some, not, ◌&&◌, ◌||◌, eqb, refl, ap, ◌∙◌, subst, arith}
use mathlib.Core.Path.{fun_ext}
use Rattle.std.proofs.lemmas.Bool.{lt-ltb}
use Rattle.lineage.specs.Finite.{any, count, Within}
use Rattle.lineage.specs.Book.{leads}
use Rattle.lineage.proofs.Numbers.{count_same}
use Rattle.index.specs.Meanings.{over, counted, tells, Means}
use Rattle.index.proofs.Building.{means_leads}
use Rattle.search.specs.declared.plain.PlainSearch.{PlainSearch}
use Rattle.search.specs.declared.successors.Successors.{Successors}
use Rattle.search.specs.Following.{models_of, follows, reaches}
use Rattle.search.specs.Plain.{meaning_of, ShowsBook}

within_limits : (s : Successors) (u v : ℕ) → u < models_of s → v < models_of s → reaches s u v ≡ leads (models_of s) (follows s) u v
within_limits s u v h k = rw (lt-ltb u (models_of s) h, lt-ltb v (models_of s) k) refl

any_same : (n : ℕ) (p q : ℕ → Bool) → ((k : ℕ) → k < n → p k ≡ q k) → any n p ≡ any n q
any_same zero p q h = refl
any_same (suc n) p q h = ap (λ (t : Bool). t || any n p) (h n (omega arith)) ∙ ap (λ (t : Bool). q n || t) (any_same n p q (λ k l. h k (omega arith)))

pub means_book : (s : Successors) (n : ℕ) (R : ℕ → ℕ → Bool) → models_of s ≡ n → ((u v : ℕ) → follows s u v ≡ R u v) → Within n R → Means (over (models_of s) (reaches s)) n R
means_book s n R e f within =
    let same : follows s ≡ R = fun_ext (λ u. fun_ext (f u)) in
    let P : ℕ → Type 0 = λ m. Within m R → Means (over (models_of s) (reaches s)) m R in
    let Q : (ℕ → ℕ → Bool) → Type 0 = λ T. Within (models_of s) T → Means (over (models_of s) (reaches s)) (models_of s) T in
    subst P e (subst Q same (λ w. means_leads (models_of s) (follows s) (reaches s) w (within_limits s))) within

-- and the calls of plain search show the book: what it tells, below the count, is leads-to
pub shows_book : (s : Successors) (n : ℕ) (R : ℕ → ℕ → Bool) → models_of s ≡ n → ((u v : ℕ) → follows s u v ≡ R u v) → ShowsBook (record { successors = Some s }) n R
shows_book s n R e f =
    let p : PlainSearch = record { successors = Some s } in
    let same : follows s ≡ R = fun_ext (λ u. fun_ext (f u)) in
    let c : counted (meaning_of p) ≡ n = e in
    let t : (u v : ℕ) → u < n → v < n → tells (meaning_of p) u v ≡ leads n R u v = λ u v h k.
    let h' : u < models_of s = omega arith in
    let k' : v < models_of s = omega arith in
    rw (lt-ltb u (models_of s) h', lt-ltb v (models_of s) k') refl
    ∙ ap (λ (T : ℕ → ℕ → Bool). leads (models_of s) T u v) same
    ∙ ap (λ (m : ℕ). leads m R u v) e in
    record {
      descendants = λ u h.
          ap (λ (m : ℕ). count m (λ v. not (eqb u v) && tells (meaning_of p) u v)) c
          ∙ count_same n (λ v. not (eqb u v) && tells (meaning_of p) u v) (λ v. not (eqb u v) && leads n R u v) (λ v k. ap (λ (q : Bool). not (eqb u v) && q) (t u v h k));
      circles = λ u h.
          ap (λ (m : ℕ). any m (λ v. not (eqb u v) && (tells (meaning_of p) u v && tells (meaning_of p) v u))) c
          ∙ any_same n (λ v. not (eqb u v) && (tells (meaning_of p) u v && tells (meaning_of p) v u)) (λ v. not (eqb u v) && (leads n R u v && leads n R v u))
          (λ v k. ap (λ (q : Bool). not (eqb u v) && (q && tells (meaning_of p) v u)) (t u v h k) ∙ ap (λ (q : Bool). not (eqb u v) && (leads n R u v && q)) (t v u k h));
    }
