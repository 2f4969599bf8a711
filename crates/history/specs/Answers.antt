-- What an answer says.
use Rattle.std.specs.Prelude.{ℕ, Bool, true, false, Some, None, Ok, Err, Option, Result}
use Rattle.std.specs.Option.{option_map, option_and_then}
use Rattle.std.specs.Result.{result_err}
use Rattle.history.specs.declared.answer.Outcome.{Outcome}
use Rattle.history.specs.declared.answer.Outcome.TheVariants.{Done, Carve, Stop}
use Rattle.history.specs.declared.fault.ShopFault.{ShopFault}
use Rattle.history.specs.Faults.{number, values}

-- the answer to a call: what it comes to, or the fault that it is refused with
abbrev pub Answer : Type 0
Answer = Result Outcome ShopFault

-- of an answer that any fault may refuse: whether it is carve
abbrev pub carved : {E : Type 0} → Result Outcome E → Bool
carved (Ok Done) = false
carved (Ok Carve) = true
carved (Ok (Stop s)) = false
carved (Err f) = false

-- the model that a stop names
abbrev pub named : {E : Type 0} → Result Outcome E → Option ℕ
named (Ok Done) = None
named (Ok Carve) = None
named (Ok (Stop s)) = Some s.model
named (Err f) = None

-- the fault of a refusal
abbrev pub refused : {E : Type 0} → Result Outcome E → Option E
refused a = result_err a

-- the number and the values that an answer stands for
pub record Told : Type 0 where
  pub number : Option ℕ
  pub values : Option (ℕ × ℕ)
  pub carved : Bool
  pub named : Option ℕ

-- the number of its refusal with the values that it brings, whether it is carve, and the model that it names
abbrev pub told : Answer → Told
told a = record { number = option_map number (refused a); values = option_and_then values (refused a); carved = carved a; named = named a }
