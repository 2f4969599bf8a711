use Rattle.std.proofs.Common.{◌≡◌, ◌∷◌, length, ap, refl, arith}
use Rattle.std.proofs.lemmas.List.{length-drop, take_rest}
use Rattle.lines.specs.Reading.{lines_left, line_bytes}
use Rattle.orderfile.proofs.Replying.{buffer_long, replying_more}
use Rattle.orderfile.proofs.day.answer_lines.Goals as goal

pub loop-line-preserved : goal.loop-line-preserved
loop-line-preserved g c =
    let a = c.loop-line.invariant in
    let h = a.room in
    let long = buffer_long a in
    let left = c.in-Some.ensures.steps.left.0 in
    let one : length (lines_left c.loop-line.line-iterator) ≡ length (line_bytes c.in-Some.line ∷ lines_left c.next.new.self) = ap length left in
    let part = take_rest c.loop-line.out c.loop-line.end in
    let rest = length-drop c.loop-line.end c.loop-line.out in
    let w = c.answer_line-end.ensures.written (omega (arith, ap length part)) in
    replying_more a left (rw (part, c.loop-line.auto.work) at w) refl
