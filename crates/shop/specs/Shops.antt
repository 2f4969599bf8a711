-- A shop by the history that it follows, and what a call on it comes to.
use Rattle.std.specs.Prelude.{◌≡◌, ℕ, ◌≤◌, Bool, true, not, ◌&&◌, List, ◌∷◌, Some, None, Ok, Err, Option, Result, ◌≢◌}
use Rattle.book.specs.declared.kept.Book.{Book}
use Rattle.book.specs.declared.refusal.Refusal.{Refusal}
use Rattle.book.specs.Counts.{models, model_refusal}
use Rattle.book.specs.Books.{standing, count_of, is_stale}
use Rattle.index.specs.declared.fault.IndexFault.{IndexFault}
use Rattle.index.specs.Meanings.{Meaning, tells, Means}
use Rattle.holds.specs.declared.sheet.HoldSheet.{HoldSheet}
use Rattle.holds.specs.Holds.{held as held_in}
use Rattle.holds.specs.Sheets.{standing as Holds_on}
use Rattle.history.specs.declared.answer.Outcome.{Outcome}
use Rattle.history.specs.declared.answer.Outcome.TheVariants.{Done, Carve, Stop}
use Rattle.history.specs.declared.call.Call.{Call}
use Rattle.history.specs.declared.fault.ShopFault.{ShopFault}
use Rattle.history.specs.declared.fault.ShopFault.TheVariants.{Book as OfBook, Index as OfIndex, Hold as OfHold, Stale}
use Rattle.history.specs.Answers.{Answer}
use Rattle.history.specs.Events.{Event, History, happened}
use Rattle.history.specs.Standing.{stands, current}
use Rattle.history.specs.Table.{Refuses}
use Rattle.history.specs.Laws.{Lawful, LawfulHistory}
use Rattle.history.specs.Lists.{book_of, sheet_of}
use Rattle.shop.specs.declared.running.Shop.{Shop}
use Rattle.shop.specs.declared.running.ordering.Verdict.{Verdict}
use Rattle.shop.specs.declared.running.ordering.Verdict.TheVariants.{Carve as Carved, Stop as Stopped}

abbrev pub book_in : {X : Type 0} → Shop X → Book
book_in s = s.book

abbrev pub sheet_in : {X : Type 0} → Shop X → HoldSheet
sheet_in s = s.sheet

abbrev pub index_in : {X : Type 0} → Shop X → X
index_in s = s.index

-- how many models a shop has
abbrev pub models_in : {X : Type 0} → Shop X → ℕ
models_in s = models (count_of (book_in s))

-- what a model that is not below the count is refused with
abbrev pub unknown_to : {X : Type 0} → Shop X → ℕ → Option Refusal
unknown_to s m = model_refusal (models_in s) m

-- the answer that a call gives that is done or refused
abbrev pub done : Result (Unit {0}) ShopFault → Answer
done (Ok u) = Ok Done
done (Err f) = Err f

-- what an order comes to, by its verdict
abbrev pub outcome : Verdict → Outcome
outcome Carved = Carve
outcome (Stopped named) = Stop named

-- the answer that an order gives
abbrev pub ruled : Result Verdict ShopFault → Answer
ruled (Ok v) = Ok (outcome v)
ruled (Err f) = Err f

-- a refusal changes nothing
abbrev pub Unchanged : {X : Type 0} → Result (Unit {0}) ShopFault → Shop X → Shop X → Type 0
Unchanged (Ok u) s t = Unit {0}
Unchanged (Err f) s t = t ≡ s

-- a refused indexing leaves the book and the sheet, whole, and what the index means
abbrev pub Unindexed : {X : Type 0} → (X → Meaning) → Result (Unit {0}) ShopFault → Shop X → Shop X → Type 0
Unindexed meaning (Ok u) s t = sheet_in t ≡ sheet_in s
Unindexed meaning (Err f) s t = (book_in t ≡ book_in s) × (sheet_in t ≡ sheet_in s) × (meaning (index_in t) ≡ meaning (index_in s))

-- h is on the sheet, and the index says that it leads to m
abbrev pub bars_in : {X : Type 0} → (X → Meaning) → Shop X → ℕ → ℕ → Bool
bars_in meaning s m h = held_in (Holds_on (sheet_in s)) h && tells (meaning (index_in s)) h m

-- the lowest number that passes a test, or none where none does
abbrev pub LowestOf : (ℕ → Bool) → Option ℕ → Type 0
LowestOf passes None = (k : ℕ) → passes k ≢ true
LowestOf passes (Some h) = (passes h ≡ true) × ((k : ℕ) → passes k ≡ true → h ≤ k)

module _ {X : Type 0} (meaning : X → Meaning) (refuses : X → Refuses) where
  -- a shop of n models, whose index refuses indexings by `owed`, is what a lawful history comes to
  pub record Follows (n : ℕ) (owed : Refuses) (h : History) (s : Shop X) : Type 0 where
    pub lawful : LawfulHistory n owed h
    pub count : models_in s ≡ n
    pub book : standing (book_in s) ≡ book_of (happened h)
    pub sheet : Holds_on (sheet_in s) ≡ sheet_of (happened h)
    -- the book's mark tells whether the index is current, and then the index means the book
    pub mark : is_stale (book_in s) ≡ not (current (happened h))
    pub means : current (happened h) ≡ true → Means (meaning (index_in s)) n (stands (happened h))
    pub rule : refuses (index_in s) ≡ owed

  -- a call on a shop that was s and is t, answered by a: whatever history the shop followed, the answer is lawful, and the shop follows the longer history
  pub record Keeps (s : Shop X) (call : Call) (a : Answer) (t : Shop X) : Type 0 where
    pub law : (n : ℕ) (owed : Refuses) (h : History) → Follows n owed h s → Lawful n owed (happened h) call a
    pub follows : (n : ℕ) (owed : Refuses) (h : History) → Follows n owed h s → Follows n owed ((call, a) ∷ h) t

  -- what is said of a shop by its count and by what happened, whatever history it follows
  pub record Says (s : Shop X) (P : ℕ → List Event → Type 0) : Type 0 where
    pub by_history : (n : ℕ) (owed : Refuses) (h : History) → Follows n owed h s → P n (happened h)

  -- what an indexing shows, by what the kind's own build shows
  abbrev pub ShownBy : (Result (Unit {0}) IndexFault → Type 0) → Result (Unit {0}) ShopFault → Type 0
  ShownBy shows (Ok u) = shows (Ok u)
  ShownBy shows (Err (OfBook e)) = ⊥
  ShownBy shows (Err (OfIndex e)) = shows (Err e)
  ShownBy shows (Err (OfHold e)) = ⊥
  ShownBy shows (Err Stale) = ⊥

  -- after an indexing the kind's own calls show what they promise, of the models and of what stands
  abbrev pub Shown : (X → ℕ → (ℕ → ℕ → Bool) → Result (Unit {0}) IndexFault → X → Type 0) → Shop X → Result (Unit {0}) ShopFault → Shop X → Type 0
  Shown shows s r t = Says s (λ n es. ShownBy (λ x. shows (index_in s) n (stands es) x (index_in t)) r)
