use Rattle.std.proofs.Common.{◌+◌, ◌<◌, length, Some, None, refl}
use Rattle.lines.specs.declared.reading.Line.{Line}
use Rattle.lines.proofs.Lines.{some_bytes, no_lines}
use Rattle.lines.proofs.Steps.{gives}
use Rattle.lines.proofs.reading.stepping.LinesIterator.next.Goals as goal

pub returns-then-is_empty-clause-steps : goal.returns-then-is_empty-clause-steps
returns-then-is_empty-clause-steps c =
    let s = c.args.self.now in
    gives s None s (no_lines s.rest.now c.if-is_empty.ensures, refl)

pub returns-clause-steps : goal.returns-clause-steps
returns-clause-steps c =
    let s = c.args.self.now in
    let h : 0 < length s.rest.now = some_bytes s.rest.now c.if-is_empty.ensures in
    let l : Line = record { bytes = c.first_line.result.0; place = s.place + 1 } in
    gives s (Some l) _ (c.first_line.ensures.first h, refl, refl)
