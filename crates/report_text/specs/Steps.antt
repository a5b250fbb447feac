-- How far the code has come in a text. It follows the code; `Reads.antt` has what is promised.
use Rattle.std.specs.Prelude.{◌≡◌, ◌<◌, ◌≤◌, ◌+◌, ℕ, List, [], ◌∷◌, ◌++◌, length, slice_index_or, not, ◌==◌, ◌&&◌, nat_le, Bool, true, max}
use Rattle.mate_num.specs.declared.bounds.TheConstants.{NODES_MAX}
use Rattle.std.specs.Prelude.{All, Some, Result, Ok, Err, ⊤}
use Rattle.std.specs.List.{list_all}
use Rattle.vm_shape.specs.declared.description.Description.{Description}
use Rattle.mate_journal.specs.Log.{Log, IsSameLog}
use Rattle.mate_journal.specs.declared.report.Report.{Report}
use Rattle.report_line_reader.specs.declared.line.Line.{Line}
use Rattle.report_line_reader.specs.Told.{line_words}
use Rattle.report_text.specs.LastLines.{last_text}
use Rattle.report_text.specs.Fits.{AreFitting, IsSound, FitsLast}
use Rattle.report_text.specs.Parts.{log_with_line, log_of, aired_of, air_told, report_of, IsSameReport, nodes_in, nodes_of}
use Rattle.report_text.specs.Places.{place_after, IsPlaceAfter}
use Rattle.report_text.specs.Reads.{text_of_lines, IsBadAt}
use Rattle.report_text.specs.declared.last_line.LastLine.{LastLine}
use Rattle.report_text.specs.declared.parts.Parts.{Parts}
use Rattle.report_text.specs.declared.fault.TextFault.{TextFault}
use Rattle.report_text.specs.declared.fault.TextFault.TheVariants.{BadLine, NoMemory}

-- the logs of the `NODES_MAX` nodes that there can be
pub record AreLogsOf (ls : List Line) (logs : List Log) : Type 0 where
  pub count : length logs ≡ NODES_MAX
  pub same : (node : ℕ) (d : Log) → node < NODES_MAX → IsSameLog (slice_index_or logs node d) (log_of node ls)

-- what is kept of lines that fit
pub record HasRead (d : Description) (ls : List Line) (p : Parts) : Type 0 where
  pub fitting : AreFitting d ls
  pub logs : AreLogsOf ls p.logs.items
  pub air : p.air ≡ air_told ls
  pub place : IsPlaceAfter ls p.place
  pub count : p.count ≡ length ls
  pub nodes : p.nodes ≡ nodes_of ls

-- a text is lines that were read, and what is left
pub record IsAt (d : Description) (bytes left : List ℕ) (p : Parts) : Type 0 where
  pub ls : List Line
  pub read : HasRead d ls p
  pub text : bytes ≡ text_of_lines d ls ++ left
  pub few : length ls + length left ≤ 4000000000

-- no LF is among the bytes
abbrev pub IsOneLine : List ℕ → Type 0
IsOneLine bytes = list_all (λ b. not (b == 10)) bytes ≡ true

-- what taking one more line leaves
abbrev pub TakesLine : Description → List Line → Line → Parts → Result (Unit {0}) TextFault → Type 0
TakesLine d ls l new (Ok done) = HasRead d (ls ++ l ∷ []) new
TakesLine d ls l new (Err (BadLine line)) = (AreFitting d (ls ++ l ∷ []) → ⊥) × (line ≡ length ls + 1)
TakesLine d ls l new (Err NoMemory) = ⊤

-- the bytes of a line that spell no record
pub record TellsNone (d : Description) (bytes : List ℕ) : Type 0 where
  pub whole : IsOneLine bytes
  pub none : (l : Line) → IsSound d l → bytes ≡ line_words d l → ⊥

pub record IsEndedBy (ls : List Line) (left : List ℕ) (r : Report) : Type 0 where
  pub e : LastLine
  pub last : FitsLast ls e
  pub text : left ≡ last_text e
  pub is : IsSameReport r (report_of ls e)

-- what reading a last line gives
abbrev pub ReadsLast : Description → List Line → List ℕ → Result Report TextFault → Type 0
ReadsLast d ls left (Ok r) = IsEndedBy ls left r
ReadsLast d ls left (Err (BadLine line)) = IsBadAt d ls left line
ReadsLast d ls left (Err NoMemory) = ⊤

-- a line was added
pub record AddsLine (l : Line) (old new : Parts) : Type 0 where
  pub logs : length new.logs.items ≡ length old.logs.items
  pub here : (d : Log) → IsSameLog (slice_index_or new.logs.items l.node d)
      (log_with_line (slice_index_or old.logs.items l.node d) l.stamp l.told)
  pub others : (node : ℕ) (d : Log) → (node ≡ l.node → ⊥) → slice_index_or new.logs.items node d ≡ slice_index_or old.logs.items node d
  pub air : new.air ≡ old.air ++ aired_of l
  pub place : new.place ≡ Some (place_after old.place l)
  pub count : new.count ≡ old.count + 1
  pub nodes : new.nodes ≡ max old.nodes (nodes_in l)

-- the three lists of each log are short enough to number their items
abbrev pub AreShort : List Log → Type 0
AreShort logs = All (λ (l : Log). (length l.images < 4100000000) × (length l.stores < 4100000000)) logs

-- the test of a last line
abbrev pub fits_last : Parts → LastLine → Bool
fits_last p e = ((e.records == p.count && nat_le 1 e.nodes) && nat_le e.nodes NODES_MAX) && nat_le p.nodes e.nodes
