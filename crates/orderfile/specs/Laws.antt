-- The law over a day, in the words of its lines.
use Rattle.std.specs.Prelude.{◌≡◌, ℕ, ◌<◌, true, ◌↔◌, List, [], ◌∷◌, ◌++◌, map, reverse, length, Some, None, Ok, Err, Option, ◌≢◌}
use Rattle.std.specs.List.{slice_get}
use Rattle.lineage.specs.Lists.{◌∈◌}
use Rattle.bookfile.specs.Files.{count_in, derivations_in}
use Rattle.index.specs.Builds.{rule}
use Rattle.history.specs.declared.answer.Outcome.TheVariants.{Carve, Stop}
use Rattle.history.specs.Answers.{Answer}
use Rattle.history.specs.declared.call.Call.{Call}
use Rattle.history.specs.declared.call.Call.TheVariants.{Enter as ToEnter}
use Rattle.history.specs.Events.{Event, History, happened}
use Rattle.history.specs.Standing.{current}
use Rattle.history.specs.Laws.{Free, Lowest, Lawful, Law}
use Rattle.history.specs.Theorems.{calls}
use Rattle.lines.specs.declared.fault.LineFault.TheVariants.{NoForm}
use Rattle.lines.specs.declared.form.Form.{Form}
use Rattle.lines.specs.declared.form.Form.TheVariants.{Order}
use Rattle.lines.specs.Computed.{form_of}
use Rattle.lines.specs.Forms.{numbers_of, Small, call_of}
use Rattle.lines.specs.Lines.{lines_of}
use Rattle.lines.specs.Replies.{Reply, reply_of, told}
use Rattle.lines.specs.Texts.{text}
use Rattle.shop.specs.Loads.{entries}
use Rattle.orderfile.specs.Days.{day_fault, history_behind, day_replies, printed}

-- the call of a form, of none none
abbrev pub call_in : ℕ → Option Form → List Call
call_in work None = []
call_in work (Some f) = call_of work f ∷ []

-- the calls that lines make, in their order: a line of no form makes none
abbrev pub calls_in : ℕ → List (List ℕ) → List Call
calls_in work [] = []
calls_in work (l ∷ ls) = call_in work (form_of l) ++ calls_in work ls

-- the history of the book's entries and of the calls of these lines
abbrev pub day_history : ℕ → ℕ → List ℕ → List (List ℕ) → History
day_history capacity work book lines = history_behind (count_in book) (rule capacity) work (entries (derivations_in book)) lines

-- what happened before a line, by the lines before it
abbrev pub happened_before : ℕ → ℕ → List ℕ → List (List ℕ) → List Event
happened_before capacity work book before = happened (day_history capacity work book before)

-- the law over the lines of a day; `before` are the lines before the one that is spoken of, and the reply to it stands at their number
pub record LinesLawful (capacity work : ℕ) (book orders : List ℕ) : Type 0 where
  -- there are as many replies as lines
  pub many : length (day_replies capacity work book orders) ≡ length (lines_of orders)
  -- the calls made are the book's entries, and then the calls of the lines; and over them the law holds
  pub calls : reverse (calls (day_history capacity work book (lines_of orders))) ≡ map ToEnter (derivations_in book) ++ calls_in work (lines_of orders)
  pub law : Law (count_in book) capacity (day_history capacity work book (lines_of orders))
  -- a line that is the text of no form is refused by 18
  pub formless : (before after : List (List ℕ)) (l : List ℕ) → lines_of orders ≡ before ++ l ∷ after → ((f : Form) → Small (numbers_of f) → l ≢ text f)
      → slice_get (day_replies capacity work book orders) (length before) ≡ Some (Err NoForm)
  -- a line that is the text of a form is replied the lawful answer to its call
  pub formed : (before after : List (List ℕ)) (f : Form) → Small (numbers_of f) → lines_of orders ≡ before ++ text f ∷ after
      → (a : Answer) × (slice_get (day_replies capacity work book orders) (length before) ≡ Some (reply_of a)) × Lawful (count_in book) (rule capacity) (happened_before capacity work book before) (call_of work f) a
  -- so an order line is replied carve exactly if its model is one of the book, the index is current, and no held model leads to the ordered one
  pub carve : (before after : List (List ℕ)) (m : ℕ) → m < 65536 → lines_of orders ≡ before ++ text (Order m) ∷ after
      → (slice_get (day_replies capacity work book orders) (length before) ≡ Some (Ok Carve))
      ↔ ((m < count_in book) × (current (happened_before capacity work book before) ≡ true) × Free (happened_before capacity work book before) m)
  -- and stop with a model exactly if, so far, that is the lowest-numbered held model that leads to the ordered one
  pub stop : (before after : List (List ℕ)) (m k : ℕ) → m < 65536 → lines_of orders ≡ before ++ text (Order m) ∷ after
      → (slice_get (day_replies capacity work book orders) (length before) ≡ Some (Ok (Stop (record { model = k }))))
      ↔ ((m < count_in book) × (current (happened_before capacity work book before) ≡ true) × Lowest (happened_before capacity work book before) m k)

-- on every day that is answered
abbrev pub Lawfully : ℕ → ℕ → List ℕ → List ℕ → Type 0
Lawfully capacity work book orders = day_fault book orders ≡ None → LinesLawful capacity work book orders

-- no reply is refusal 8
abbrev pub NoneForSurplus : List Reply → Type 0
NoneForSurplus rs = (r : Reply) → r ∈ rs → (told r).number ≢ Some 8

-- over two kinds of index, if neither has a reply with refusal 8, a day has the same replies, and prints the same
pub record DaysAgree : Type 0 where
  pub replies : (c d work : ℕ) (book orders : List ℕ) → day_fault book orders ≡ None → NoneForSurplus (day_replies c work book orders) → NoneForSurplus (day_replies d work book orders)
      → day_replies c work book orders ≡ day_replies d work book orders
  pub printed : (c d work : ℕ) (book orders : List ℕ) → NoneForSurplus (day_replies c work book orders) → NoneForSurplus (day_replies d work book orders)
      → printed c work book orders ≡ printed d work book orders
