-- What a day prints, by whether it has a fault.
use Rattle.std.proofs.Common.{◌≡◌, ℕ, List, Some, None, Option, ap}
use Rattle.std.specs.List.{flat_map}
use Rattle.lines.specs.Replies.{reply_text}
use Rattle.orderfile.specs.declared.day.DayFault.{DayFault}
use Rattle.orderfile.specs.Days.{day_fault, fault_text, day_replies, printed_by, printed}

module _ (capacity work : ℕ) (book orders : List ℕ) where
  pub printed_fault : (e : DayFault) → day_fault book orders ≡ Some e → printed capacity work book orders ≡ fault_text e
  unfolding printed
  printed_fault e q = ap (λ (o : Option DayFault). printed_by o (day_replies capacity work book orders)) q

  pub printed_replies : day_fault book orders ≡ None → printed capacity work book orders ≡ flat_map reply_text (day_replies capacity work book orders)
  unfolding printed
  printed_replies q = ap (λ (o : Option DayFault). printed_by o (day_replies capacity work book orders)) q
