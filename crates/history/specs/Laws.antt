-- The law: how each call is answered, after the events so far.
use Rattle.std.specs.Prelude.{◌≡◌, ℕ, ◌<◌, ◌≤◌, true, false, ◌↔◌, List, ◌∷◌, ◌++◌, Some, None, Ok, Option}
use Rattle.lineage.specs.Finite.{Chain}
use Rattle.index.specs.Builds.{rule}
use Rattle.history.specs.declared.answer.Outcome.TheVariants.{Done}
use Rattle.history.specs.declared.call.Call.{Call}
use Rattle.history.specs.declared.call.Call.TheVariants.{Enter, Strike, Index, Hold, Release, Order}
use Rattle.history.specs.Answers.{Answer, carved, named, refused, told}
use Rattle.history.specs.Events.{Event, History, happened}
use Rattle.history.specs.Standing.{stands, held, current}
use Rattle.history.specs.Table.{Refuses, refusal}

-- u leads to v by a chain of derivations that stand
abbrev pub LeadsBy : List Event → ℕ → ℕ → Type 0
LeadsBy es u v = Chain (stands es) u v

-- h is held and leads to m
pub record Bars (es : List Event) (m h : ℕ) : Type 0 where
  pub held : held es h ≡ true
  pub leads : LeadsBy es h m

-- no held model leads to m
abbrev pub Free : List Event → ℕ → Type 0
Free es m = (h : ℕ) → Bars es m h → ⊥

-- h is the lowest-numbered held model that leads to m
pub record Lowest (es : List Event) (m h : ℕ) : Type 0 where
  pub bars : Bars es m h
  pub lowest : (k : ℕ) → Bars es m k → h ≤ k

-- how an order for m is answered that is not refused
pub record AnswersOrder (es : List Event) (m : ℕ) (a : Answer) : Type 0 where
  -- by carve, exactly if no held model leads to m
  pub carve : (carved a ≡ true) ↔ (Free es m)
  -- by a stop that names h, exactly if h is the lowest-numbered held model that leads to m
  pub stop : (h : ℕ) → (named a ≡ Some h) ↔ (Lowest es m h)

-- the model that an order is for
abbrev pub ordered : Call → Option ℕ
ordered (Enter d) = None
ordered (Strike d) = None
ordered (Index work) = None
ordered (Hold m p) = None
ordered (Release m p) = None
ordered (Order m) = Some m

-- how a call is answered that is not refused: an order by carve or stop, any other is done
abbrev pub Granted : Option ℕ → List Event → Answer → Type 0
Granted None es a = a ≡ Ok Done
Granted (Some m) es a = AnswersOrder es m a

-- a call is answered lawfully
pub record Lawful (n : ℕ) (refuses : Refuses) (es : List Event) (call : Call) (a : Answer) : Type 0 where
  -- it is refused exactly as the table says
  pub table : refused a ≡ refusal n refuses es call
  -- and where it is not refused, it is granted
  pub granted : refused a ≡ None → Granted (ordered call) es a

-- every call of a history was answered lawfully after those before it
pub record LawfulHistory (n : ℕ) (refuses : Refuses) (h : History) : Type 0 where
  pub each : (after before : History) (call : Call) (a : Answer) → h ≡ after ++ (call, a) ∷ before → Lawful n refuses (happened before) call a

-- the law over a whole history, on a shop of n models whose index has this capacity; `before` is what was called before
pub record Law (n capacity : ℕ) (h : History) : Type 0 where
  -- every call is refused exactly as the table says, and for no other cause
  pub table : (after before : History) (call : Call) (a : Answer) → h ≡ after ++ (call, a) ∷ before → refused a ≡ refusal n (rule capacity) (happened before) call
  -- a call other than an order that is not refused is done
  pub done : (after before : History) (call : Call) (a : Answer) → h ≡ after ++ (call, a) ∷ before → ordered call ≡ None → refused a ≡ None → a ≡ Ok Done
  -- an order for a model of the book while the index is current: carved exactly if no held model leads to the ordered one
  pub carve : (after before : History) (m : ℕ) (a : Answer) → h ≡ after ++ (Order m, a) ∷ before → m < n → current (happened before) ≡ true → (carved a ≡ true) ↔ (Free (happened before) m)
  -- and a stop names the lowest-numbered held model that does
  pub stop : (after before : History) (m : ℕ) (a : Answer) → h ≡ after ++ (Order m, a) ∷ before → m < n → current (happened before) ≡ true → (k : ℕ) → (named a ≡ Some k) ↔ (Lowest (happened before) m k)
  -- an order for a model of the book while it is not current: refused by 13
  pub stale : (after before : History) (m : ℕ) (a : Answer) → h ≡ after ++ (Order m, a) ∷ before → m < n → current (happened before) ≡ false → (told a).number ≡ Some 13
