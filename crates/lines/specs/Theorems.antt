-- Theorems on lines: of a file, and of replies.
use Rattle.std.specs.Prelude.{◌≡◌, ℕ, List, ◌++◌, map}
use Rattle.std.specs.List.{flat_map, AllByRecursion}
use Rattle.history.specs.Answers.{Answer, told as answer_told}
use Rattle.lines.specs.Lines.{lines_of, between, last_end, Clear, ended}
use Rattle.lines.specs.Replies.{Reply, reply_line, reply_text, reply_of, Nameable, told}

-- with 0A between them the lines are the file, less the 0A that it ends with
abbrev pub LinesMakeTheFile : Type 0
LinesMakeTheFile = (file : List ℕ) → between (lines_of file) ++ last_end file ≡ file

abbrev pub NoEndInALine : Type 0
NoEndInALine = (file : List ℕ) → AllByRecursion Clear (lines_of file)

-- what is written line by line, each with its end, has just these lines
abbrev pub EndedLinesAreLines : Type 0
EndedLinesAreLines = (ls : List (List ℕ)) → AllByRecursion Clear ls → lines_of (flat_map ended ls) ≡ ls

-- replies written one behind another are as many lines
abbrev pub RepliesAreLines : Type 0
RepliesAreLines = (rs : List Reply) → AllByRecursion Nameable rs → lines_of (flat_map reply_text rs) ≡ map reply_line rs

-- a reply stands for what the answer stands for that it was made of
abbrev pub RepliesTellTheAnswer : Type 0
RepliesTellTheAnswer = (a : Answer) → told (reply_of a) ≡ answer_told a
