-- Calls and files of worked days, and what they are answered with. Assumes nothing.
use Rattle.std.specs.Prelude.{ℕ, List, [], ◌∷◌, ◌++◌, map, reverse, Ok, codes}
use Rattle.index.specs.Builds.{rule}
use Rattle.history.specs.declared.answer.Outcome.TheVariants.{Done, Carve, Stop}
use Rattle.history.specs.Answers.{Answer}
use Rattle.history.specs.declared.call.Call.{Call}
use Rattle.history.specs.declared.call.Call.TheVariants.{Enter, Index, Hold, Order}
use Rattle.history.specs.Made.{made}
use Rattle.examples.specs.Book.{derived}

-- of an index of either capacity
abbrev pub OfBoth : (ℕ → Type 0) → Type 0
OfBoth P = P 2048 × P 128

-- the answers to calls made in turn on a new shop of n models over an index of this capacity
abbrev pub answers : ℕ → ℕ → List Call → List Answer
answers n capacity calls = reverse (map (λ c. c.1) (made n (rule capacity) (reverse calls)))

-- a stop that names the model m
abbrev pub stop : ℕ → Answer
stop m = Ok (Stop (record { model = m }))

-- the entries of the book of eight models
abbrev pub eight_entries : List Call
eight_entries = map (λ d. Enter (record { from = d.0; to = d.1 })) derived

-- an indexing, a hold on 5, orders for 7, 6 and 4, a hold on 2 too, and an order for 7
abbrev pub eight_calls : List Call
eight_calls = eight_entries ++ (Index 32768 ∷ Hold 5 1 ∷ Order 7 ∷ Order 6 ∷ Order 4 ∷ Hold 2 1 ∷ Order 7 ∷ [])

-- their answers; the ten entries are done
abbrev pub eight_answers : List Answer
eight_answers = map (λ d. Ok Done) derived ++ (Ok Done ∷ Ok Done ∷ stop 5 ∷ stop 5 ∷ Ok Carve ∷ Ok Done ∷ stop 2 ∷ [])

-- the book file of the eight models
abbrev pub eight_file : List ℕ
eight_file = 8 ∷ 0 ∷ 10 ∷ 0
    ∷ 0 ∷ 0 ∷ 0 ∷ 0 ∷ 1 ∷ 0 ∷ 2 ∷ 0 ∷ 2 ∷ 0 ∷ 3 ∷ 0 ∷ 4 ∷ 0 ∷ 5 ∷ 0 ∷ 6 ∷ 0 ∷ 6 ∷ 0
    ∷ 1 ∷ 0 ∷ 2 ∷ 0 ∷ 3 ∷ 0 ∷ 3 ∷ 0 ∷ 5 ∷ 0 ∷ 4 ∷ 0 ∷ 7 ∷ 0 ∷ 6 ∷ 0 ∷ 5 ∷ 0 ∷ 7 ∷ 0 ∷ []

-- the same calls, behind the entries, as an order file
abbrev pub eight_lines : List ℕ
eight_lines = codes "I\nH 5 1\nC 7\nC 6\nC 4\nH 2 1\nC 7\n"

-- what that day prints
abbrev pub eight_printed : List ℕ
eight_printed = codes "ok\nok\nstop 5\nstop 5\ncarve\nok\nstop 2\n"

-- the book file of three models in which 1 was taken from 0, and 2 from 1
abbrev pub three_file : List ℕ
three_file = 3 ∷ 0 ∷ 2 ∷ 0 ∷ 0 ∷ 0 ∷ 1 ∷ 0 ∷ 1 ∷ 0 ∷ 2 ∷ 0 ∷ []

-- an order file of thirteen lines, of which the last but one orders a model that the book has not, and the last is of no form
abbrev pub three_lines : List ℕ
three_lines = codes "C 2\nI\nC 2\nH 0 7\nC 2\nS 1 2\nC 2\nI\nC 2\nR 0 8\nR 0 7\nC 3\nC 02\n"

-- what that day prints
abbrev pub three_printed : List ℕ
three_printed = codes "no 13\nok\ncarve\nok\nstop 0\nok\nno 13\nok\ncarve\nno 12\nok\nno 2\nno 18\n"
