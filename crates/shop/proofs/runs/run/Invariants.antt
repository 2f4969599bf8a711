use Rattle.std.proofs.Common.{length}
use Rattle.book.specs.Counts.{models}
use Rattle.shop.proofs.Making.{Running}
use Rattle.shop.proofs.runs.run.Given as goal

abbrev pub invariant-loop-made : goal.invariant-loop-made
invariant-loop-made g l =
    Running g.I.Index.meaning g.I.Index.refuses (models l.fn.count) (g.I.Index.refuses l.fn.index) (length l.fn.work) l.calls l.fn.answers l.shop l.answers l.made
