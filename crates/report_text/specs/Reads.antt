-- What the bytes of a report spell: a report, or the first line that doesn't fit.
use Rattle.std.specs.Prelude.{◌≡◌, ◌<◌, ◌+◌, ℕ, List, [], ◌∷◌, ◌++◌, length, flat_map, ◌⊎◌, Result, Ok, Err, ⊤}
use Rattle.vm_shape.specs.declared.description.Description.{Description}
use Rattle.mate_journal.specs.declared.report.Report.{Report}
use Rattle.report_line_reader.specs.declared.line.Line.{Line}
use Rattle.report_line_reader.specs.Told.{line_text}
use Rattle.report_text.specs.LastLines.{last_text}
use Rattle.report_text.specs.Fits.{AreFitting, FitsLast}
use Rattle.report_text.specs.Parts.{report_of, IsSameReport}
use Rattle.report_text.specs.declared.last_line.LastLine.{LastLine}
use Rattle.report_text.specs.declared.fault.TextFault.{TextFault}
use Rattle.report_text.specs.declared.fault.TextFault.TheVariants.{BadLine, NoMemory}

-- the text of lines
abbrev pub text_of_lines : Description → List Line → List ℕ
text_of_lines d ls = flat_map (line_text d) ls

-- bytes are the text of lines that fit and of a last line that fits after them, and nothing more
pub record AreLines (d : Description) (bytes : List ℕ) (ls : List Line) (e : LastLine) : Type 0 where
  pub fitting : AreFitting d ls
  pub last : FitsLast ls e
  pub text : bytes ≡ text_of_lines d ls ++ last_text e

-- neither a line nor a last line that fits after those before is at the front of what is left
pub record NothingFits (d : Description) (before : List Line) (left : List ℕ) : Type 0 where
  pub line : (l : Line) (more : List ℕ) → AreFitting d (before ++ l ∷ []) → left ≡ line_text d l ++ more → ⊥
  pub last : (e : LastLine) (more : List ℕ) → FitsLast before e → left ≡ last_text e ++ more → ⊥

-- something is after a last line
pub record GoesOnBehind (before : List Line) (left : List ℕ) : Type 0 where
  pub e : LastLine
  pub more : List ℕ
  pub last : FitsLast before e
  pub is : left ≡ last_text e ++ more
  pub some : 0 < length more

-- the first bad line of what is left, counted from 1 in the whole text
abbrev pub IsBadAt : Description → List Line → List ℕ → ℕ → Type 0
IsBadAt d before left line =
    (NothingFits d before left × (line ≡ length before + 1)) ⊎ (GoesOnBehind before left × (line ≡ length before + 2))

-- the lines before the bad one fit
pub record IsBadLine (d : Description) (bytes : List ℕ) (line : ℕ) : Type 0 where
  pub before : List Line
  pub left : List ℕ
  pub fitting : AreFitting d before
  pub text : bytes ≡ text_of_lines d before ++ left
  pub bad : IsBadAt d before left line

-- the bytes are those of lines, and the report is theirs
pub record AreOfReport (d : Description) (bytes : List ℕ) (r : Report) : Type 0 where
  pub ls : List Line
  pub e : LastLine
  pub lines : AreLines d bytes ls e
  pub is : IsSameReport r (report_of ls e)

-- what a reader of reports answers
abbrev pub ReadsReport : Description → List ℕ → Result Report TextFault → Type 0
ReadsReport d bytes (Ok r) = AreOfReport d bytes r
ReadsReport d bytes (Err (BadLine line)) = IsBadLine d bytes line
ReadsReport d bytes (Err NoMemory) = ⊤
