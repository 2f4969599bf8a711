-- Derivations entered in turn: what comes of the first, and of one place after another, and that those of a valid file all stand.
use Rattle.std.proofs.Common.{◌≡◌, ℕ, zero, suc, ◌+◌, List, [], ◌∷◌, drop, Some, None, Ok, Err, Option, Result, sym, refl, ap, ◌∙◌, add-one, arith}
use Rattle.std.specs.List.{slice_get}
use Rattle.rising.specs.Lists.{insert}
use Rattle.book.specs.declared.derivation.Derivation.{Derivation}
use Rattle.book.specs.declared.refusal.Refusal.{Refusal}
use Rattle.book.specs.declared.kept.Book.{Book}
use Rattle.book.specs.Order.{by_models}
use Rattle.book.specs.Counts.{count_refusal}
use Rattle.book.specs.Refusals.{unless}
use Rattle.book.specs.Derivations.{Valid}
use Rattle.book.specs.Books.{entry_refusal, in_turn}
use Rattle.book.proofs.Turns.{valid_turns}
use Rattle.bookfile.specs.declared.checked.BookFile.{BookFile}
use Rattle.bookfile.specs.Checked.{count_shown, shown, entering, Enters, EntersAll}
use Rattle.bookfile.proofs.Files.{within_count}

module _ (n : ℕ) (ds : List Derivation) (e : Derivation) (es : List Derivation) where
  pub first_goes : entry_refusal n ds e ≡ None → in_turn n ds (e ∷ es) ≡ in_turn n (insert by_models ds e) es
  first_goes o = ap (λ (p : Option Refusal). unless p (in_turn n (insert by_models ds e) es)) o

  pub first_stops : (r : Refusal) → entry_refusal n ds e ≡ Some r → in_turn n ds (e ∷ es) ≡ Err r
  first_stops r o = ap (λ (p : Option Refusal). unless p (in_turn n (insert by_models ds e) es)) o

drop_nth : {X : Type 0} (xs : List X) (i : ℕ) (x : X) → Some x ≡ slice_get xs i → drop i xs ≡ x ∷ drop (suc i) xs
drop_nth [] i x e = cc
drop_nth (y ∷ xs) zero x e = let f : y ≡ x = cc in ap (λ z. z ∷ xs) f
drop_nth (y ∷ xs) (suc i) x e = drop_nth xs i x e

drop_end : {X : Type 0} (xs : List X) (i : ℕ) → None ≡ slice_get xs i → drop i xs ≡ []
drop_end [] zero e = refl
drop_end [] (suc i) e = refl
drop_end (y ∷ xs) zero e = cc
drop_end (y ∷ xs) (suc i) e = drop_end xs i e

module _ (n : ℕ) (ds es : List Derivation) (i : ℕ) where
  pub turn_goes : (e : Derivation) → Some e ≡ slice_get es i → entry_refusal n ds e ≡ None → in_turn n ds (drop i es) ≡ in_turn n (insert by_models ds e) (drop (i + 1) es)
  turn_goes e h o = ap (in_turn n ds) (drop_nth es i e h) ∙ first_goes n ds e (drop (suc i) es) o ∙ ap (λ (k : ℕ). in_turn n (insert by_models ds e) (drop k es)) (sym (add-one i))

  pub turn_stops : (e : Derivation) (r : Refusal) → Some e ≡ slice_get es i → entry_refusal n ds e ≡ Some r → in_turn n ds (drop i es) ≡ Err r
  turn_stops e r h o = ap (in_turn n ds) (drop_nth es i e h) ∙ first_stops n ds e (drop (suc i) es) r o

  pub turns_end : None ≡ slice_get es i → in_turn n ds (drop i es) ≡ Ok ds
  turns_end h = ap (in_turn n ds) (drop_end es i h)

-- all derivations of a file, from what becomes of them in turn
pub entering_is : (f : BookFile) (r : Result (List Derivation) Refusal) → count_refusal (count_shown f) ≡ None → in_turn (count_shown f) [] (shown f) ≡ r → entering f ≡ r
entering_is f r h e = ap (λ (o : Option Refusal). unless o (in_turn (count_shown f) [] (shown f))) h ∙ e

pub all_stand : (n : ℕ) (ds es : List Derivation) → in_turn n [] es ≡ Ok ds → Valid n es → ds ≡ es
all_stand n ds es h v = let e = valid_turns n es v in cc

pub none_refused : (n : ℕ) (es : List Derivation) (r : Refusal) → in_turn n [] es ≡ Err r → Valid n es → ⊥
none_refused n es r h v = let e = valid_turns n es v in let z : ◌≡◌ {A = ℕ} 0 1 = cc in omega arith

entering_valid : (f : BookFile) → Valid (count_shown f) (shown f) → entering f ≡ Ok (shown f)
entering_valid f v = entering_is f (Ok (shown f)) (within_count (count_shown f) v.some v.most) (valid_turns (count_shown f) (shown f) v)

pub enters_all : (f : BookFile) (r : Result Book Refusal) → Enters f r → EntersAll f r
enters_all f (Ok b) h = λ v. let a = h.0 in let e = entering_valid f v in cc
enters_all f (Err e) h = λ v. let a = entering_valid f v in let z : ◌≡◌ {A = ℕ} 0 1 = cc in omega arith
