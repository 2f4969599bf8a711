-- A step of the reader of a file, and the lines that its steps give.
use Rattle.std.proofs.Common.{◌+◌, length, Some, None, Option, sym, ap, ◌∙◌, arith}
use Rattle.std.proofs.lemmas.Iterator.{YieldsList}
use Rattle.std.proofs.lemmas.Iterator.Consumers.{YieldsList-from_shown}
use Rattle.lines.specs.declared.reading.Line.{Line}
use Rattle.lines.specs.declared.reading.Lines.{Lines}
use Rattle.lines.specs.Lines.{lines_of}
use Rattle.lines.specs.Reading.{line_bytes, lines_left, Steps, ReadOn, Gives}
use Rattle.lines.proofs.Lines.{Ahead, ahead, none_ahead}

pub read_on : (before : Lines) (r : Option Line) (after : Lines) → Steps before r after → ReadOn before r after
read_on before None after s = λ file k h. none_ahead (lines_of file) k (sym s.0 ∙ h.left) h.within
read_on before (Some l) after s = λ file k h.
    let a : Ahead (lines_of file) k (line_bytes l) (lines_left after) = ahead (lines_of file) k (line_bytes l) (lines_left after) (sym s.0 ∙ h.left) in
    (a.below, a.here, s.1 ∙ ap (λ n. n + 1) h.read, record { within = omega (arith, a.below); left = a.after; read = s.2 ∙ ap (λ n. n + 1) h.read })

pub gives : (before : Lines) (r : Option Line) (after : Lines) → Steps before r after → Gives before r after
gives before r after s = record { left = s; reads = read_on before r after s }

-- the lines that come from a reader are those that are left
pub gives_left : (s : Lines) → YieldsList Gives line_bytes s (lines_left s)
gives_left s = YieldsList-from_shown Gives line_bytes lines_left (λ t u h. ap length h.left.0) (λ t l u h. h.left.0) s
