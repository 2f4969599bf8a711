-- What stands, who holds what, whether the index is current, and the lists that a shop keeps, after one more event.
use Rattle.std.proofs.Common.{◌≡◌, ℕ, true, false, cond, not, ◌&&◌, ◌||◌, eqb, List, [], ◌∷◌, ◌++◌, Some, None, refl, arith}
use Rattle.rising.specs.Lists.{insert, delete}
use Rattle.book.specs.declared.derivation.Derivation.{Derivation}
use Rattle.book.specs.Order.{by_models}
use Rattle.holds.specs.Holds.{released as without}
use Rattle.history.specs.Events.{Event, entered, struck, indexed, placed, released}
use Rattle.history.specs.Standing.{is, stands, holder, held, current}
use Rattle.history.specs.Lists.{book_of, sheet_of}

module _ (es : List Event) (u v : ℕ) (d : Derivation) where
  pub stands_entered : stands (entered d ∷ es) u v ≡ (is d u v || stands es u v)
  unfolding stands
  stands_entered = grind arith

  pub stands_struck : stands (struck d ∷ es) u v ≡ (not (is d u v) && stands es u v)
  unfolding stands
  stands_struck = grind arith

module _ (es : List Event) (u v : ℕ) where
  pub stands_indexed : stands (indexed ∷ es) u v ≡ stands es u v
  unfolding stands
  stands_indexed = refl

  pub stands_placed : (m p : ℕ) → stands (placed m p ∷ es) u v ≡ stands es u v
  unfolding stands
  stands_placed m p = refl

  pub stands_released : (m : ℕ) → stands (released m ∷ es) u v ≡ stands es u v
  unfolding stands
  stands_released m = refl

pub stands_none : (u v : ℕ) → stands [] u v ≡ false
unfolding stands
stands_none u v = refl

module _ (es : List Event) (m : ℕ) where
  pub holder_entered : (d : Derivation) → holder (entered d ∷ es) m ≡ holder es m
  unfolding holder
  holder_entered d = refl

  pub holder_struck : (d : Derivation) → holder (struck d ∷ es) m ≡ holder es m
  unfolding holder
  holder_struck d = refl

  pub holder_indexed : holder (indexed ∷ es) m ≡ holder es m
  unfolding holder
  holder_indexed = refl

module _ (es : List Event) (m x : ℕ) where
  pub holder_placed : (p : ℕ) → holder (placed x p ∷ es) m ≡ cond (eqb x m) (Some p) (holder es m)
  unfolding holder
  holder_placed p = grind arith

  pub holder_released : holder (released x ∷ es) m ≡ cond (eqb x m) None (holder es m)
  unfolding holder
  holder_released = grind arith

  pub held_placed : (p : ℕ) → held (placed x p ∷ es) m ≡ (eqb x m || held es m)
  unfolding held
  held_placed p = grind arith

  pub held_released : held (released x ∷ es) m ≡ (not (eqb x m) && held es m)
  unfolding held
  held_released = grind arith

pub holder_none : (m : ℕ) → holder [] m ≡ None
unfolding holder
holder_none m = refl

-- an entry and a strike make the index stale, an indexing makes it current
pub current_none : current [] ≡ false
unfolding current
current_none = refl

module _ (es : List Event) where
  pub current_entered : (d : Derivation) → current (entered d ∷ es) ≡ false
  unfolding current
  current_entered d = refl

  pub current_struck : (d : Derivation) → current (struck d ∷ es) ≡ false
  unfolding current
  current_struck d = refl

  pub current_indexed : current (indexed ∷ es) ≡ true
  unfolding current
  current_indexed = refl

  pub current_placed : (m p : ℕ) → current (placed m p ∷ es) ≡ current es
  unfolding current
  current_placed m p = refl

  pub current_released : (m : ℕ) → current (released m ∷ es) ≡ current es
  unfolding current
  current_released m = refl

-- the lists
pub book_none : book_of [] ≡ []
unfolding book_of
book_none = refl

pub sheet_none : sheet_of [] ≡ []
unfolding sheet_of
sheet_none = refl

module _ (es : List Event) where
  pub book_entered : (d : Derivation) → book_of (entered d ∷ es) ≡ insert by_models (book_of es) d
  unfolding book_of
  book_entered d = refl

  pub book_struck : (d : Derivation) → book_of (struck d ∷ es) ≡ delete by_models (book_of es) d
  unfolding book_of
  book_struck d = refl

  pub book_indexed : book_of (indexed ∷ es) ≡ book_of es
  unfolding book_of
  book_indexed = refl

  pub book_placed : (m p : ℕ) → book_of (placed m p ∷ es) ≡ book_of es
  unfolding book_of
  book_placed m p = refl

  pub book_released : (m : ℕ) → book_of (released m ∷ es) ≡ book_of es
  unfolding book_of
  book_released m = refl

  pub sheet_entered : (d : Derivation) → sheet_of (entered d ∷ es) ≡ sheet_of es
  unfolding sheet_of
  sheet_entered d = refl

  pub sheet_struck : (d : Derivation) → sheet_of (struck d ∷ es) ≡ sheet_of es
  unfolding sheet_of
  sheet_struck d = refl

  pub sheet_indexed : sheet_of (indexed ∷ es) ≡ sheet_of es
  unfolding sheet_of
  sheet_indexed = refl

  pub sheet_placed : (m p : ℕ) → sheet_of (placed m p ∷ es) ≡ sheet_of es ++ record { model = m; holder = p } ∷ []
  unfolding sheet_of
  sheet_placed m p = refl

  pub sheet_released : (m : ℕ) → sheet_of (released m ∷ es) ≡ without (sheet_of es) m
  unfolding sheet_of
  sheet_released m = refl
