-- The one line of a day that is not answered is short.
use Rattle.std.proofs.Common.{◌<◌, ◌≤◌, ◌++◌, length, codes, decimal, arith, length-append}
use Rattle.text.proofs.Lengths.{length_few}
use Rattle.orderfile.specs.declared.day.DayFault.{DayFault}
use Rattle.orderfile.specs.declared.day.DayFault.TheVariants.{Book, OrdersTooLong}
use Rattle.orderfile.specs.Days.{day_number, fault_word, fault_text}

word_short : (e : DayFault) → length (fault_word e) ≤ 5
word_short (Book e) = omega arith
word_short OrdersTooLong = omega arith

pub fault_short : (e : DayFault) → day_number e < 65536 → length (fault_text e) ≤ 16
fault_short e small =
    let a = word_short e in
    let b = length_few (day_number e) small in
    let c = length-append (fault_word e) (decimal (day_number e) ++ codes "\n") in
    let d = length-append (decimal (day_number e)) (codes "\n") in
    omega arith
