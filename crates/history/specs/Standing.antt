-- What stands, what is held and by whom, and whether the index is current, from the events alone, newest first.
use Rattle.std.specs.Prelude.{◌≡◌, ℕ, Bool, true, false, cond, ◌&&◌, List, [], ◌∷◌, ◌++◌, is_some, Some, None, Option, ◌==◌}
use Rattle.lineage.specs.Lists.{◌∈◌}
use Rattle.book.specs.declared.derivation.Derivation.{Derivation}
use Rattle.history.specs.declared.call.Call.{Call}
use Rattle.history.specs.Answers.{Answer, refused}
use Rattle.history.specs.Events.{Event, entered, struck, indexed, placed, released, History, counts_as}

-- d is the derivation of v from u
abbrev pub is : Derivation → ℕ → ℕ → Bool
is d u v = d.from == u && d.to == v

-- an event of the derivation of v from u
abbrev pub of_derivation : ℕ → ℕ → Event → Bool
of_derivation u v (entered d) = is d u v
of_derivation u v (struck d) = is d u v
of_derivation u v indexed = false
of_derivation u v (placed x p) = false
of_derivation u v (released x) = false

-- a hold or a release of the model m
abbrev pub of_model : ℕ → Event → Bool
of_model m (entered d) = false
of_model m (struck d) = false
of_model m indexed = false
of_model m (placed x p) = x == m
of_model m (released x) = x == m

-- an entry, a strike or an indexing
abbrev pub of_index : Event → Bool
of_index (entered d) = true
of_index (struck d) = true
of_index indexed = true
of_index (placed x p) = false
of_index (released x) = false

-- the last event that passes a test, if one does
abbrev pub last : (Event → Bool) → List Event → Option Event
last speaks [] = None
last speaks (e ∷ es) = cond (speaks e) (Some e) (last speaks es)

-- it is an entry
abbrev pub is_entry : Option Event → Bool
is_entry None = false
is_entry (Some (entered d)) = true
is_entry (Some (struck d)) = false
is_entry (Some indexed) = false
is_entry (Some (placed x p)) = false
is_entry (Some (released x)) = false

-- it is an indexing
abbrev pub is_indexing : Option Event → Bool
is_indexing None = false
is_indexing (Some (entered d)) = false
is_indexing (Some (struck d)) = false
is_indexing (Some indexed) = true
is_indexing (Some (placed x p)) = false
is_indexing (Some (released x)) = false

-- the holder, if it is a hold
abbrev pub held_by : Option Event → Option ℕ
held_by None = None
held_by (Some (entered d)) = None
held_by (Some (struck d)) = None
held_by (Some indexed) = None
held_by (Some (placed x p)) = Some p
held_by (Some (released x)) = None

-- whether the derivation of v from u stands: the last event of it is an entry
unfoldable pub stands : List Event → ℕ → ℕ → Bool
stands es u v = is_entry (last (of_derivation u v) es)

-- who holds the model m: whose hold the last event of it is
unfoldable pub holder : List Event → ℕ → Option ℕ
holder es m = held_by (last (of_model m) es)

-- whether the model m is held: the last event of it is a hold
unfoldable pub held : List Event → ℕ → Bool
held es m = is_some (held_by (last (of_model m) es))

-- whether the index is current: the last of the entries, strikes and indexings is an indexing
unfoldable pub current : List Event → Bool
current es = is_indexing (last of_index es)

-- e is the newest of the events that passes a test
pub record Last (speaks : Event → Bool) (es : List Event) (e : Event) : Type 0 where
  pub newer : List Event
  pub older : List Event
  pub whole : es ≡ newer ++ e ∷ older
  pub passes : speaks e ≡ true
  pub silent : (f : Event) → f ∈ newer → speaks f ≡ false

-- the newest accepted call that counts as an event that passes a test is this one
pub record LastCall (speaks : Event → Bool) (h : History) (call : Call) : Type 0 where
  pub after : History
  pub before : History
  pub answer : Answer
  pub whole : h ≡ after ++ (call, answer) ∷ before
  pub accepted : refused answer ≡ None
  pub passes : (e : Event) × (e ∈ counts_as call) × (speaks e ≡ true)
  pub silent : (c : Call) (a : Answer) (f : Event) → (c, a) ∈ after → refused a ≡ None → f ∈ counts_as c → speaks f ≡ false
