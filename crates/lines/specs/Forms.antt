-- The letter and the numbers of a form, and the call that it says.
use Rattle.std.specs.Prelude.{ℕ, ◌<◌, List, [], ◌∷◌}
use Rattle.std.specs.List.{AllByRecursion}
use Rattle.history.specs.declared.call.Call.{Call}
use Rattle.history.specs.declared.call.Call.TheVariants.{Enter as CallEnter, Strike as CallStrike, Index as CallIndex, Hold as CallHold, Release as CallRelease, Order as CallOrder}
use Rattle.lines.specs.declared.form.Form.{Form}
use Rattle.lines.specs.declared.form.Form.TheVariants.{Enter, Strike, Index, Hold, Release, Order}

-- E, S, I, H, R and C in ASCII
abbrev pub letter_of : Form → ℕ
letter_of (Enter d) = 69
letter_of (Strike d) = 83
letter_of Index = 73
letter_of (Hold m p) = 72
letter_of (Release m p) = 82
letter_of (Order m) = 67

abbrev pub numbers_of : Form → List ℕ
numbers_of (Enter d) = d.from ∷ (d.to ∷ [])
numbers_of (Strike d) = d.from ∷ (d.to ∷ [])
numbers_of Index = []
numbers_of (Hold m p) = m ∷ (p ∷ [])
numbers_of (Release m p) = m ∷ (p ∷ [])
numbers_of (Order m) = m ∷ []

-- numbers that are at most 65,535
abbrev pub Small : List ℕ → Type 0
Small ns = AllByRecursion (λ n. n < 65536) ns

-- the call of a form, of which an indexing is lent this much work space
abbrev pub call_of : ℕ → Form → Call
call_of work (Enter d) = CallEnter d
call_of work (Strike d) = CallStrike d
call_of work Index = CallIndex work
call_of work (Hold m p) = CallHold m p
call_of work (Release m p) = CallRelease m p
call_of work (Order m) = CallOrder m
