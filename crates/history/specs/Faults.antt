-- The numbers that faults of a shop are told by, and the values that they bring.
use Rattle.std.specs.Prelude.{ℕ, None, Option}
use Rattle.book.specs.Refusals.{number as book_number}
use Rattle.index.specs.Faults.{number as index_number, values as index_values}
use Rattle.holds.specs.Faults.{number as hold_number}
use Rattle.history.specs.declared.fault.ShopFault.{ShopFault}
use Rattle.history.specs.declared.fault.ShopFault.TheVariants.{Book, Index, Hold, Stale}

-- that of the part that refused, and 13 for an index that is not current
abbrev pub number : ShopFault → ℕ
number (Book e) = book_number e
number (Index e) = index_number e
number (Hold e) = hold_number e
number Stale = 13

-- those of an index's fault, unchanged
abbrev pub values : ShopFault → Option (ℕ × ℕ)
values (Book e) = None
values (Index e) = index_values e
values (Hold e) = None
values Stale = None
