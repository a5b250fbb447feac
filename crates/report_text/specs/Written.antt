-- The lines that the text of a report has.
use Rattle.std.specs.Prelude.{ℕ, suc, List, [], ◌∷◌, ◌++◌, map, flat_map, length, slice_index_or, Result, Ok, Err, ⊤}
use Rattle.arrayvec.specs.ArrayVec.{ArrayVec}
use Rattle.mate_num.specs.declared.store.Store.{Store}
use Rattle.mate_journal.specs.Log.{Log}
use Rattle.mate_journal.specs.Tidy.{below, entry_event}
use Rattle.mate_journal.specs.declared.air.Aired.{Aired}
use Rattle.mate_journal.specs.declared.entry.Entry.{Entry}
use Rattle.mate_journal.specs.declared.entry.Entry.TheVariants as entry
use Rattle.mate_journal.specs.declared.entry.Stamped.{Stamped}
use Rattle.mate_journal.specs.declared.report.Report.{Report}
use Rattle.report_writer.specs.Text.{events_end, records}
use Rattle.report_writer.specs.Progress.{air_event, at_event}
use Rattle.report_line_reader.specs.declared.line.Line.{Line}
use Rattle.report_line_reader.specs.declared.line.Told.{Told}
use Rattle.report_line_reader.specs.declared.line.Told.TheVariants as told
use Rattle.report_text.specs.Parts.{IsSameReport}
use Rattle.report_text.specs.declared.fault.TextFault.{TextFault}
use Rattle.report_text.specs.declared.fault.TextFault.TheVariants.{BadLine, NoMemory}
use Rattle.report_text.specs.declared.last_line.LastLine.{LastLine}

abbrev pub image_at : Log → ℕ → ArrayVec ℕ
image_at l i = slice_index_or l.images i (record { items = [] })

abbrev pub store_at : Log → ℕ → Store
store_at l i = slice_index_or l.stores i (record { shared = record { items = [] }; buffers = record { items = [] } })

-- what the line of an entry says
abbrev pub told_by_entry : Log → Entry → Told
told_by_entry l (entry.Install h version image) = told.Installed h version (image_at l image)
told_by_entry l (entry.Seen store) = told.Shown (store_at l store)
told_by_entry l e = told.Made e

abbrev pub line_of_entry : Log → ℕ → Stamped → Line
line_of_entry l node e = record { stamp = e.stamp; node = node; told = told_by_entry l e.entry }

abbrev pub line_of_aired : Aired → Line
line_of_aired a = record { stamp = a.stamp; node = a.node; told = told.OnAir a.air }

-- the lines of one event, as the text has them
abbrev pub node_lines : ℕ → ℕ → List Log → List Line
node_lines event node [] = []
node_lines event node (l ∷ ls) = map (line_of_entry l node) (at_event entry_event event l.entries) ++ node_lines event (suc node) ls

abbrev pub lines_at : Report → ℕ → List Line
lines_at r event = map line_of_aired (at_event air_event event r.air) ++ node_lines event 0 r.nodes

-- the lines of a report, and its last line
abbrev pub lines_of : Report → List Line
lines_of r = flat_map (lines_at r) (below (events_end r))

abbrev pub last_in_text : Report → LastLine
last_in_text r = record { whole = r.whole; records = records r; events = r.events; nodes = length r.nodes }

-- what reading the text of a report gives: this report, whatever room is left in its logs
abbrev pub GivesBack : Report → Result Report TextFault → Type 0
GivesBack r (Ok x) = IsSameReport x r
GivesBack r (Err (BadLine line)) = ⊥
GivesBack r (Err NoMemory) = ⊤
