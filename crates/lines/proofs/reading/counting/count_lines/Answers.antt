use Rattle.std.proofs.Common.{length, ap, inl, arith}
use Rattle.lines.proofs.Lines.{few_lines}
use Rattle.lines.proofs.Steps.{gives_left}
use Rattle.std.proofs.lemmas.Iterator.Consumers.{count_from_yields_List}
use Rattle.lines.proofs.reading.counting.count_lines.Goals as goal

pub count-requires-clause-fits : goal.count-requires-clause-fits
count-requires-clause-fits c = inl (omega (arith, few_lines c.new.result.rest.now, c.new.result.room))

pub returns : goal.returns
returns c = omega (arith, count_from_yields_List c.new.result c.count.result c.count.ensures.ran (gives_left c.new.result), ap length c.new.ensures.left)
