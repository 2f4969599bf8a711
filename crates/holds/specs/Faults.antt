-- The numbers that the faults of a hold are told by.
use Rattle.std.specs.Prelude.{ℕ}
use Rattle.holds.specs.declared.fault.HoldFault.{HoldFault}
use Rattle.holds.specs.declared.fault.HoldFault.TheVariants.{OnHold, SheetFull, NotOnHold, AnothersHold}

abbrev pub number : HoldFault → ℕ
number OnHold = 9
number SheetFull = 10
number NotOnHold = 11
number AnothersHold = 12
