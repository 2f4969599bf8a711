-- A reader of the lines of a file, and what a step of it comes to.
use Rattle.std.specs.Prelude.{◌≡◌, ℕ, ◌+◌, ◌<◌, ◌≤◌, List, [], ◌∷◌, length, drop, Some, None, Option, slice_index_or}
use Rattle.lines.specs.declared.reading.Line.{Line}
use Rattle.lines.specs.declared.reading.Lines.{Lines}
use Rattle.lines.specs.Lines.{lines_of}

abbrev pub line_bytes : Line → List ℕ
line_bytes l = l.bytes.now

abbrev pub line_place : Line → ℕ
line_place l = l.place

-- the lines that are left to read
abbrev pub lines_left : Lines → List (List ℕ)
lines_left s = lines_of s.rest.now

-- how many lines were read
abbrev pub lines_read : Lines → ℕ
lines_read s = s.place

-- the reader of a file, behind its first k lines
pub record Reads (file : List ℕ) (k : ℕ) (reader : Lines) : Type 0 where
  pub within : k ≤ length (lines_of file)
  pub left : lines_left reader ≡ drop k (lines_of file)
  pub read : lines_read reader ≡ k

-- a step gives the first of the lines that are left, at the next place, and leaves the others; or none is left, and nothing changes
abbrev pub Steps : Lines → Option Line → Lines → Type 0
Steps before (Some l) after =
    (lines_left before ≡ line_bytes l ∷ lines_left after) × (line_place l ≡ lines_read before + 1) × (lines_read after ≡ lines_read before + 1)
Steps before None after = (lines_left before ≡ []) × (after ≡ before)

-- a step of the reader of a file, behind its first k lines, gives the line k, told as place k + 1; or the file has k lines
abbrev pub ReadOn : Lines → Option Line → Lines → Type 0
ReadOn before (Some l) after = (file : List ℕ) (k : ℕ) → Reads file k before
    → (k < length (lines_of file)) × (line_bytes l ≡ slice_index_or (lines_of file) k []) × (line_place l ≡ k + 1) × Reads file (k + 1) after
ReadOn before None after = (file : List ℕ) (k : ℕ) → Reads file k before → k ≡ length (lines_of file)

-- what the reader gives: both
pub record Gives (before : Lines) (line : Option Line) (after : Lines) : Type 0 where
  pub left : Steps before line after
  pub reads : ReadOn before line after
