-- The numbers that faults of an indexing are told by, and the values that they bring.
use Rattle.std.specs.Prelude.{ℕ, Some, None, Option}
use Rattle.index.specs.declared.fault.IndexFault.{IndexFault}
use Rattle.index.specs.declared.fault.IndexFault.TheVariants.{WorkTooShort, TooMuchSurplus}

abbrev pub number : IndexFault → ℕ
number WorkTooShort = 7
number (TooMuchSurplus found capacity) = 8

-- the surplus found and the capacity
abbrev pub values : IndexFault → Option (ℕ × ℕ)
values WorkTooShort = None
values (TooMuchSurplus found capacity) = Some (found, capacity)
