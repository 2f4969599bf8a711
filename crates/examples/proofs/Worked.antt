-- The worked examples together, by computation. Assumes nothing.
use Rattle.std.proofs.Common.{refl}
use Rattle.std.specs.Fmt.{digits}
use Rattle.text.specs.Numerals.{plain}
use Rattle.lineage.specs.Book.{leads, group, arc, surplus}
use Rattle.index.specs.Builds.{rule}
use Rattle.history.specs.Standing.{stands, holder, held, current}
use Rattle.history.specs.Table.{how_many_stand, how_many_held}
use Rattle.lines.specs.Computed.{form_of}
use Rattle.lines.specs.Lines.{lines_of}
use Rattle.orderfile.specs.Days.{printed}
use Rattle.examples.specs.Worked.{WorkedExamples}
use Rattle.lineage.proofs.Worked.{worked}

pub worked_examples : WorkedExamples
unfolding digits plain leads group arc surplus rule stands holder held current how_many_stand how_many_held form_of lines_of printed
worked_examples = record {
  notions = worked;
  derivations = refl;
  holds = (refl, refl);
  file = (refl, refl);
  day_of_holds = (refl, refl);
  whole_day = (refl, refl);
}
