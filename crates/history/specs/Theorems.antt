-- The theorems on histories.
use Rattle.std.specs.Prelude.{◌≡◌, ℕ, ◌<◌, ◌≤◌, Bool, true, false, ◌↔◌, List, ◌∷◌, map, length, Some, ◌≢◌}
use Rattle.lineage.specs.Lists.{◌∈◌}
use Rattle.rising.specs.Lists.{rising}
use Rattle.book.specs.Order.{by_models}
use Rattle.book.specs.Derivations.{taken_from}
use Rattle.index.specs.Builds.{rule}
use Rattle.holds.specs.Holds.{held as held_in, holder_of, apart}
use Rattle.history.specs.declared.call.Call.{Call}
use Rattle.history.specs.declared.call.Call.TheVariants.{Enter, Index, Hold, Order}
use Rattle.history.specs.declared.fault.ShopFault.{ShopFault}
use Rattle.history.specs.Answers.{Answer, refused, told}
use Rattle.history.specs.Events.{History, Event, entered, indexed, placed, happened}
use Rattle.history.specs.Standing.{of_derivation, of_model, of_index, stands, held, holder, current, Last, LastCall}
use Rattle.history.specs.Table.{Refuses, how_many_stand, how_many_held}
use Rattle.history.specs.Laws.{AnswersOrder, Lawful, LawfulHistory}
use Rattle.history.specs.Made.{made}
use Rattle.history.specs.Lists.{book_of, sheet_of}

-- what stands, is held and is current, by the events
pub record ByTheLastEvent : Type 0 where
  -- a derivation stands exactly if the last event of it is that it was entered
  pub stands : (es : List Event) (u v : ℕ) → (stands es u v ≡ true) ↔ (Last (of_derivation u v) es (entered (record { from = u; to = v })))
  -- a model is held exactly if the last event of it is a hold
  pub held : (es : List Event) (m : ℕ) → (held es m ≡ true) ↔ ((p : ℕ) × Last (of_model m) es (placed m p))
  -- and its holder is that hold's
  pub holder : (es : List Event) (m p : ℕ) → (holder es m ≡ Some p) ↔ (Last (of_model m) es (placed m p))
  -- the index is current exactly if the last entry, strike or indexing is an indexing
  pub current : (es : List Event) → (current es ≡ true) ↔ (Last of_index es indexed)

-- the same over the calls made
pub record ByTheLastCall : Type 0 where
  -- a derivation stands exactly if the last accepted entry or strike of it is an entry
  pub stands : (h : History) (u v : ℕ) → (stands (happened h) u v ≡ true) ↔ (LastCall (of_derivation u v) h (Enter (record { from = u; to = v })))
  -- a model is held exactly if the last accepted hold or release of it is a hold
  pub held : (h : History) (m : ℕ) → (held (happened h) m ≡ true) ↔ ((p : ℕ) × LastCall (of_model m) h (Hold m p))
  -- and its holder is that hold's
  pub holder : (h : History) (m p : ℕ) → (holder (happened h) m ≡ Some p) ↔ (LastCall (of_model m) h (Hold m p))
  -- the index is current exactly if the last accepted entry, strike or indexing is an indexing
  pub current : (h : History) → (current (happened h) ≡ true) ↔ ((work : ℕ) × LastCall of_index h (Index work))

-- what changes nothing
pub record RefusedChangesNothing : Type 0 where
  -- nothing more happened by a refused call
  pub refused : (h : History) (call : Call) (a : Answer) (f : ShopFault) → refused a ≡ Some f → happened ((call, a) ∷ h) ≡ happened h
  -- and nothing by an order
  pub order : (h : History) (m : ℕ) (a : Answer) → happened ((Order m, a) ∷ h) ≡ happened h

-- the orders: a lawful answer to an order for m
pub record OrdersAreAnswered : Type 0 where
  -- while the index is current, for a model below n: by carve and stop as the law says
  pub while_current : (n : ℕ) (refuses : Refuses) (es : List Event) (m : ℕ) (a : Answer) → Lawful n refuses es (Order m) a → m < n → current es ≡ true → AnswersOrder es m a
  -- while it is not, for a model below n: refused as stale, by 13
  pub while_stale : (n : ℕ) (refuses : Refuses) (es : List Event) (m : ℕ) (a : Answer) → Lawful n refuses es (Order m) a → m < n → current es ≡ false → (told a).number ≡ Some 13
  -- for any other model: 2
  pub unknown : (n : ℕ) (refuses : Refuses) (es : List Event) (m : ℕ) (a : Answer) → Lawful n refuses es (Order m) a → n ≤ m → (told a).number ≡ Some 2

-- the calls of a history, and their answers
abbrev pub calls : History → List Call
calls h = map (λ made. made.0) h

abbrev pub answers : History → List Answer
answers h = map (λ made. made.1) h

-- the answers of two histories are the same, as values, and in the number and the values that each stands for
pub record SameAnswers (g h : History) : Type 0 where
  pub values : answers g ≡ answers h
  pub told : map told (answers g) ≡ map told (answers h)

-- the law leaves one answer
pub record AnswersAreDecided : Type 0 where
  -- two lawful answers to one call, after the same events, are the same
  pub one : (n : ℕ) (refuses : Refuses) (es : List Event) (call : Call) (a b : Answer) → Lawful n refuses es call a → Lawful n refuses es call b → a ≡ b
  -- so are the answers of two lawful histories over the same calls, where the two indexes refuse alike
  pub all : (n : ℕ) (r s : Refuses) (g h : History) → ((R : ℕ → ℕ → Bool) (work : ℕ) → r n R work ≡ s n R work) → calls g ≡ calls h → LawfulHistory n r g → LawfulHistory n s h → SameAnswers g h

-- what an index refuses is the rule of a capacity
abbrev pub Ruled : ℕ → Refuses → Type 0
Ruled capacity refuses = (n : ℕ) (R : ℕ → ℕ → Bool) (work : ℕ) → refuses n R work ≡ rule capacity n R work

-- no answer is the refusal of this number
abbrev pub Never : ℕ → History → Type 0
Never number h = (a : Answer) → a ∈ answers h → (told a).number ≢ Some number

-- two kinds of index: if neither history has a refusal 8, the answers to the same calls are the same
abbrev pub KindsAgree : Type 0
KindsAgree =
    (n c d : ℕ) (r s : Refuses) (g h : History) → Ruled c r → Ruled d s → calls g ≡ calls h → LawfulHistory n r g → LawfulHistory n s h → Never 8 g → Never 8 h → SameAnswers g h

-- any calls make one lawful history, and only one
pub record OneLawfulHistory : Type 0 where
  pub same_calls : (n : ℕ) (refuses : Refuses) (cs : List Call) → calls (made n refuses cs) ≡ cs
  pub lawful : (n : ℕ) (refuses : Refuses) (cs : List Call) → LawfulHistory n refuses (made n refuses cs)
  pub only : (n : ℕ) (refuses : Refuses) (cs : List Call) (h : History) → calls h ≡ cs → LawfulHistory n refuses h → h ≡ made n refuses cs

-- the lists that a shop of n models keeps say what the events say
pub record ListsSay (n : ℕ) (es : List Event) : Type 0 where
  -- the book rises, has exactly the derivations that stand, and is as long as they are many
  pub rises : rising by_models (book_of es) ≡ true
  pub taken : (u v : ℕ) → taken_from (book_of es) u v ≡ stands es u v
  pub many : length (book_of es) ≡ how_many_stand n es
  -- the sheet has no two holds on one model, has exactly the held models with their holders, and is as long as they are many
  pub once : apart (sheet_of es) ≡ true
  pub on_hold : (m : ℕ) → held_in (sheet_of es) m ≡ held es m
  pub by_whom : (m : ℕ) → holder_of (sheet_of es) m ≡ holder es m
  pub how_many : length (sheet_of es) ≡ how_many_held n es

-- after every lawful history
abbrev pub LawfulListsSay : Type 0
LawfulListsSay = (n : ℕ) (refuses : Refuses) (h : History) → LawfulHistory n refuses h → ListsSay n (happened h)

-- what never goes beyond the bounds of a shop of n models
pub record WithinBounds (n : ℕ) (es : List Event) : Type 0 where
  -- only models below n stand in derivations, and only they are held
  pub models : (u v : ℕ) → stands es u v ≡ true → (u < n) × (v < n)
  pub on_hold : (m : ℕ) → held es m ≡ true → m < n
  -- at most 2,048 derivations stand, and at most 64 models are held
  pub few_stand : how_many_stand n es ≤ 2048
  pub few_held : how_many_held n es ≤ 64

-- after every lawful history
abbrev pub LawfulBounds : Type 0
LawfulBounds = (n : ℕ) (refuses : Refuses) (h : History) → LawfulHistory n refuses h → WithinBounds n (happened h)
