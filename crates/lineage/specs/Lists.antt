-- Lists: what stands in them, rising lists, places. Assumes nothing.
use Rattle.std.specs.Prelude.{◌≡◌, ℕ, suc, Bool, cond, ◌⊎◌, List, [], ◌∷◌, ◌++◌, Some, None, Option}

infix 40 ◌∈◌
-- x stands in the list.
abbrev pub ◌∈◌ : {A : Type 0} → A → List A → Type 0
◌∈◌ x [] = ⊥
◌∈◌ x (y ∷ ys) = (y ≡ x) ⊎ (x ∈ ys)

-- No element stands twice in the list.
abbrev pub Distinct : {A : Type 0} → List A → Type 0
Distinct [] = Unit {0}
Distinct (x ∷ xs) = (x ∈ xs → ⊥) × Distinct xs

-- The lists f x for the x of a list, joined.
abbrev pub gathered : {A B : Type 0} → (A → List B) → List A → List B
gathered f [] = []
gathered f (x ∷ xs) = f x ++ gathered f xs

-- x put at its place into a list that rises by the order `below`, unless it stands there.
abbrev pub inserted : {A : Type 0} → (A → A → Bool) → A → List A → List A
inserted below x [] = x ∷ []
inserted below x (y ∷ ys) = cond (below x y) (x ∷ y ∷ ys) (cond (below y x) (y ∷ inserted below x ys) (y ∷ ys))

-- What stands in a list, rising by the order `below`, each once.
abbrev pub sorted : {A : Type 0} → (A → A → Bool) → List A → List A
sorted below [] = []
sorted below (x ∷ xs) = inserted below x (sorted below xs)

-- The next place.
abbrev pub next : Option ℕ → Option ℕ
next None = None
next (Some p) = Some (suc p)

-- The place, from 0, of the first element that passes a test.
abbrev pub place : (ℕ → Bool) → List ℕ → Option ℕ
place test [] = None
place test (x ∷ xs) = cond (test x) (Some 0) (next (place test xs))
