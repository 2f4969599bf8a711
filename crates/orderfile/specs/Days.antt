-- What a day prints: the replies to the lines of its order file, or why there are none.
use Rattle.std.specs.Prelude.{◌≡◌, ℕ, ◌*◌, ◌<◌, ◌≤◌, max, cond, List, [], ◌∷◌, ◌++◌, length, Some, None, Ok, Err, codes, decimal, Option, Result, nat_lt}
use Rattle.std.specs.Option.{option_map}
use Rattle.std.specs.List.{flat_map}
use Rattle.text.specs.Placing.{placed}
use Rattle.book.specs.Refusals.{first}
use Rattle.bookfile.specs.declared.refusal.WriteRefusal.{WriteRefusal}
use Rattle.bookfile.specs.Files.{count_in, derivations_in}
use Rattle.bookfile.specs.Refusals.{number}
use Rattle.bookfile.specs.Table.{file_refusal}
use Rattle.index.specs.Builds.{rule}
use Rattle.index.specs.Meanings.{Meaning}
use Rattle.history.specs.Events.{History, happened}
use Rattle.history.specs.Table.{Refuses}
use Rattle.history.specs.Made.{answer_to, with_call}
use Rattle.lines.specs.declared.fault.LineFault.TheVariants.{NoForm}
use Rattle.lines.specs.declared.form.Form.{Form}
use Rattle.lines.specs.Computed.{form_of}
use Rattle.lines.specs.Forms.{call_of}
use Rattle.lines.specs.Lines.{lines_of}
use Rattle.lines.specs.Replies.{Reply, reply_text, reply_of}
use Rattle.shop.specs.declared.running.Shop.{Shop}
use Rattle.shop.specs.Shops.{Follows}
use Rattle.shop.specs.Loads.{entries}
use Rattle.orderfile.specs.declared.day.DayFault.{DayFault}
use Rattle.orderfile.specs.declared.day.DayFault.TheVariants.{Book, OrdersTooLong}

abbrev pub day_number : DayFault → ℕ
day_number (Book e) = number e
day_number OrdersTooLong = 19

-- the one line of a day that is not answered: a word, and the number
abbrev pub fault_word : DayFault → List ℕ
fault_word (Book e) = codes "book "
fault_word OrdersTooLong = codes "no "

abbrev pub fault_text : DayFault → List ℕ
fault_text e = fault_word e ++ (decimal (day_number e) ++ codes "\n")

-- why a day is not answered, if it is not: the book file is refused, then the order file is too long
abbrev pub day_fault : List ℕ → List ℕ → Option DayFault
day_fault book orders = first (option_map Book (file_refusal book)) (cond (nat_lt 32768 (length orders)) (Some OrdersTooLong) None)

-- lines answered in turn on a shop of n models that made the calls of a history; an indexing is lent `work` numbers

module _ (n : ℕ) (refuses : Refuses) (work : ℕ) where
  -- the reply to a line of this form, or of none
  abbrev pub reply_to : History → Option Form → Reply
  reply_to h None = Err NoForm
  reply_to h (Some f) = reply_of (answer_to n refuses (happened h) (call_of work f))

  -- the history behind it: a line of no form makes no call
  abbrev pub behind : History → Option Form → History
  behind h None = h
  behind h (Some f) = with_call n refuses h (call_of work f)

  -- the history behind lines, and the replies to them
  abbrev pub history_behind : History → List (List ℕ) → History
  history_behind h [] = h
  history_behind h (l ∷ ls) = history_behind (behind h (form_of l)) ls

  abbrev pub replies : History → List (List ℕ) → List Reply
  replies h [] = []
  replies h (l ∷ ls) = reply_to h (form_of l) ∷ replies (behind h (form_of l)) ls

-- the replies to the lines of an order file, on the shop of a book file over an index of this capacity
abbrev pub day_replies : ℕ → ℕ → List ℕ → List ℕ → List Reply
day_replies capacity work book orders = replies (count_in book) (rule capacity) work (entries (derivations_in book)) (lines_of orders)

-- what is printed, by the fault of the day, if it has one
abbrev pub printed_by : Option DayFault → List Reply → List ℕ
printed_by None rs = flat_map reply_text rs
printed_by (Some e) rs = fault_text e

unfoldable pub printed : ℕ → ℕ → List ℕ → List ℕ → List ℕ
printed capacity work book orders = printed_by (day_fault book orders) (day_replies capacity work book orders)

-- how much room is asked for: 16 bytes a line of the order file, and 16 in any case
abbrev pub room : List ℕ → ℕ
room orders = max 16 (16 * length (lines_of orders))

-- what answering a day comes to: what is printed stands in front, and what is behind it is as it was; or there is too little room, and nothing is touched
abbrev pub Prints : ℕ → ℕ → List ℕ → List ℕ → List ℕ → Result ℕ WriteRefusal → List ℕ → Type 0
Prints capacity work book orders out (Ok len) after =
    (room orders ≤ length out) × (len ≡ length (printed capacity work book orders)) × (len ≤ length out) × (after ≡ placed out 0 (printed capacity work book orders))
Prints capacity work book orders out (Err e) after = (length out < room orders) × (after ≡ out)

module _ {X : Type 0} (meaning : X → Meaning) (refuses : X → Refuses) where
  -- a shop that has made exactly the entries of the book file, or the fault
  abbrev pub Opens : Refuses → List ℕ → List ℕ → Result (Shop X) DayFault → Type 0
  Opens owed book orders (Ok s) = (day_fault book orders ≡ None) × Follows meaning refuses (count_in book) owed (entries (derivations_in book)) s
  Opens owed book orders (Err e) = day_fault book orders ≡ Some e

  -- whatever history the shop followed, the replies stand in front, and what is behind them is as it was
  pub record AnswersLines (s : Shop X) (work : ℕ) (lines : List (List ℕ)) (out : List ℕ) (len : ℕ) (after : List ℕ) : Type 0 where
    pub within : len ≤ length out
    pub by_history : (n : ℕ) (owed : Refuses) (h : History) → Follows meaning refuses n owed h s
        → (len ≡ length (flat_map reply_text (replies n owed work h lines))) × (after ≡ placed out 0 (flat_map reply_text (replies n owed work h lines)))
