use Rattle.std.proofs.Common.{length}
use Rattle.lines.specs.Lines.{lines_of}
use Rattle.lines.specs.Reading.{lines_left}
use Rattle.orderfile.proofs.Replying.{Replying}
use Rattle.orderfile.proofs.day.answer_lines.Given as goal

abbrev pub invariant-loop-line : goal.invariant-loop-line
invariant-loop-line g l =
    Replying g.I.Index.meaning g.I.Index.refuses l.initial.shop (length l.initial.work) (lines_of l.orders) l.initial.out l.shop (lines_left l.line-iterator) l.out l.end
