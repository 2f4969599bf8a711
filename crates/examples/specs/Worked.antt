-- The worked examples together. Assumes nothing.
use Rattle.std.specs.Prelude.{◌≡◌, map}
use Rattle.bookfile.specs.Files.{count_in, derivations_in}
use Rattle.orderfile.specs.Days.{printed}
use Rattle.lineage.specs.Book.{among}
use Rattle.lineage.specs.Example.{Worked, book}
use Rattle.examples.specs.Book.{derived}
use Rattle.examples.specs.Days.{OfBoth, answers, eight_calls, eight_answers, eight_file, eight_lines, eight_printed, three_file, three_lines, three_printed}

-- What the definitions give.
pub record WorkedExamples : Type 0 where
  -- the book of eight models in the notions of its index, and the closure of two links
  pub notions : Worked
  -- whose derivations are these
  pub derivations : among derived ≡ book
  -- with 5 held, orders for 7 and 6 are stopped by 5 and one for 4 is carved; with 2 held too, one for 7 is stopped by 2
  pub holds : OfBoth (λ capacity. answers 8 capacity eight_calls ≡ eight_answers)
  -- the file of the eight models says that book
  pub file : (count_in eight_file ≡ 8) × (map (λ d. (d.from, d.to)) (derivations_in eight_file) ≡ derived)
  -- the same calls from the files of a day
  pub day_of_holds : OfBoth (λ capacity. printed capacity 32768 eight_file eight_lines ≡ eight_printed)
  -- a whole day of three models: orders before and after an indexing, a hold, a strike and a release, and what is refused
  pub whole_day : OfBoth (λ capacity. printed capacity 32768 three_file three_lines ≡ three_printed)
