-- The replies to a line: their texts, what they stand for, and what writing one comes to.
use Rattle.std.specs.Prelude.{◌≡◌, ℕ, ◌<◌, ◌≤◌, List, ◌++◌, length, Some, None, Ok, Err, codes, decimal, Option, Result}
use Rattle.std.specs.Option.{option_map, option_and_then}
use Rattle.text.specs.Placing.{placed}
use Rattle.history.specs.Answers.{Answer, Told, carved, named, refused}
use Rattle.history.specs.declared.answer.Outcome.{Outcome}
use Rattle.history.specs.declared.answer.Outcome.TheVariants.{Done, Carve, Stop}
use Rattle.lines.specs.declared.fault.LineFault.{LineFault}
use Rattle.lines.specs.declared.fault.LineFault.TheVariants.{Shop}
use Rattle.lines.specs.Faults.{number, values}
use Rattle.lines.specs.Lines.{ended}

-- the reply to a line: what its call comes to, or the fault that the line is refused with
abbrev pub Reply : Type 0
Reply = Result Outcome LineFault

-- the line of a reply
abbrev pub reply_line : Reply → List ℕ
reply_line (Ok Done) = codes "ok"
reply_line (Ok Carve) = codes "carve"
reply_line (Ok (Stop s)) = codes "stop " ++ decimal s.model
reply_line (Err f) = codes "no " ++ decimal (number f)

-- the line with its end
abbrev pub reply_text : Reply → List ℕ
reply_text r = ended (reply_line r)

-- the reply that an answer of a shop comes to
abbrev pub reply_of : Answer → Reply
reply_of (Ok o) = Ok o
reply_of (Err f) = Err (Shop f)

-- a stop names a number of 16 bits
abbrev pub Nameable : Reply → Type 0
Nameable r = (m : ℕ) → named r ≡ Some m → m < 65536

-- what a reply stands for
abbrev pub told : Reply → Told
told r = record { number = option_map number (refused r); values = option_and_then values (refused r); carved = carved r; named = named r }

-- the line stands at the front and all behind it is as it was; under 16 bytes nothing is touched
abbrev pub Replied : List ℕ → List ℕ → Option ℕ → List ℕ → Type 0
Replied line out (Some len) after = (len ≡ length line) × (len ≤ 16) × (16 ≤ length out) × (after ≡ placed out 0 line)
Replied line out None after = (length out < 16) × (after ≡ out)
