-- How the report of a run is written while its events end: of a node script, or of a world.
use Rattle.std.specs.Prelude.{◌≡◌, ◌≤◌, ◌<◌, ℕ, suc, Bool, List, [], ◌++◌, Option, Result, Ok, Err, length, flat_map, true, false, ◌⊎◌}
use Rattle.mate_files.specs.Counts.{Rose}
use Rattle.mate_files.specs.Sink.{Sent, SentPart, Puts}
use Rattle.mate_files.specs.declared.sink.SinkFault.{SinkFault}
use Rattle.mate_files.specs.declared.sink.SinkFault.TheVariants.{Failed, NoMemory as OutOfMemory}
use Rattle.vm_shape.specs.declared.description.Description.{Description}
use Rattle.mate_journal.specs.NodeScript.{RunEnd, Whole, Full, Cut}
use Rattle.mate_journal.specs.Tidy.{below}
use Rattle.mate_journal.specs.declared.report.Report.{Report}
use Rattle.mate_journal.specs.declared.report.IntoFault.{IntoFault}
use Rattle.mate_journal.specs.declared.report.IntoFault.TheVariants as into
use Rattle.report_writer.specs.Text.{lines, event_lines, end_line, records, text}
use Rattle.report_writer.specs.declared.pass.Pass.{Pass}
use Rattle.report_writer.specs.declared.write_fault.WriteFault.{WriteFault}
use Rattle.report_writer.specs.declared.write_fault.WriteFault.TheVariants.{LogFull, NoMemory, Sink}

-- which reports are of a run that ends so
abbrev pub OfRun : Type 1
OfRun = RunEnd → Report → Type 0

-- a report of a run that ended by itself: it is whole, or its log was full before an event
abbrev pub IsEnded : OfRun → Report → Type 0
IsEnded Is r = Is Whole r ⊎ Is Full r

-- the number of a run's last event: if it is whole, that of the stores that are shown at its end
abbrev pub last_event : RunEnd → ℕ → ℕ
last_event Whole events = suc events
last_event Full events = events
last_event Cut events = events

-- the lines of all events before one
abbrev pub lines_before : Description → Report → ℕ → List ℕ
lines_before d r event = flat_map (event_lines d r) (below event)

-- the last line of a report
abbrev pub last_line : Report → List ℕ
last_line r = end_line (records r) r.events (length r.nodes) r.whole

-- what is written of a run that ends so: the text of its report, or, if it was cut, that text without its last line
abbrev pub written_text : RunEnd → Description → Report → List ℕ
written_text Whole d r = text d r
written_text Full d r = text d r
written_text Cut d r = lines d r

-- The report is that of the events that ended, and a prefix of what is written of it was written: all lines of its events but
-- those of the last one, and maybe more. So a last line is only after a run that is whole or that a full log ended.
pub record IsWrittenPart (d : Description) (Is : OfRun) (out out' : Option (List ℕ)) (r : Report) : Type 0 where
  pub how : RunEnd
  pub report : Is how r
  pub part : SentPart out out' (written_text how d r)
  pub more : List ℕ
  pub covers : part.front ≡ lines_before d r (last_event how r.events) ++ more

-- Such a prefix that isn't all of it. So if all lines of a report were sent, it isn't one of a run that was cut.
pub record IsWrittenShort (d : Description) (Is : OfRun) (out out' : Option (List ℕ)) (r : Report) : Type 0 where
  pub written : IsWrittenPart d Is out out' r
  pub unsent : 0 < length written.part.rest

-- memory was refused before the run began: the report has no node and no record, and nothing was written
pub record IsNothingRun (out out' : Option (List ℕ)) (r : Report) : Type 0 where
  pub report : r ≡ record { nodes = []; air = []; events = 0; whole = false }
  pub same : out' ≡ out

-- the whole text of a whole report, or of one whose log is full before an event, was written; or the run was stopped by the sink, which
-- lacks at least the last byte and whose faults rose, or by lack of memory
abbrev pub RunsInto : Description → OfRun → Option (List ℕ) → Option (List ℕ) → ℕ → ℕ → Result Report IntoFault → Type 0
RunsInto d Is out out' before now (Ok r) = Is Whole r × Sent out out' (text d r)
RunsInto d Is out out' before now (Err (into.LogFull r)) = Is Full r × Sent out out' (text d r)
RunsInto d Is out out' before now (Err (into.NoMemory r)) = IsNothingRun out out' r ⊎ IsWrittenPart d Is out out' r
RunsInto d Is out out' before now (Err (into.Sink r)) = IsWrittenShort d Is out out' r × Rose before now

-- what a fault of a sink is to a run
abbrev pub write_fault_of : SinkFault → WriteFault
write_fault_of Failed = Sink
write_fault_of OutOfMemory = NoMemory

-- a fault, with the report of the events that ended
abbrev pub into_fault : WriteFault → Report → IntoFault
into_fault LogFull r = into.LogFull r
into_fault NoMemory r = into.NoMemory r
into_fault Sink r = into.Sink r

-- an answer, with the report of the events that ended
abbrev pub with_report : Result (Unit {0}) WriteFault → Report → Result Report IntoFault
with_report (Ok all) r = Ok r
with_report (Err fault) r = Err (into_fault fault r)

-- this is the report of a run that was written so
abbrev pub WritesReport : Description → OfRun → Option (List ℕ) → Option (List ℕ) → ℕ → ℕ → Result (Unit {0}) WriteFault → Report → Type 0
WritesReport d Is out out' before now result r = RunsInto d Is out out' before now (with_report result r)

-- there is a report of a run that was written so
pub record WritesRun (d : Description) (Is : OfRun) (out out' : Option (List ℕ)) (before now : ℕ)
    (result : Result (Unit {0}) WriteFault) : Type 0 where
  pub report : Report
  pub gives : WritesReport d Is out out' before now result report

-- how a run ends whose last line was put so: a run that isn't whole ends at a full log
abbrev pub write_ended : (whole : Bool) → Result (Unit {0}) SinkFault → Result (Unit {0}) WriteFault
write_ended true (Ok all) = Ok all
write_ended false (Ok all) = Err LogFull
write_ended true (Err fault) = Err (write_fault_of fault)
write_ended false (Err fault) = Err (write_fault_of fault)

-- the last line of a report was put, and so the run ends
pub record PutsLastLine (r : Report) (out : Option (List ℕ)) (before : ℕ) (out' : Option (List ℕ)) (now : ℕ) (pass : Pass) : Type 0 where
  pub put : Result (Unit {0}) SinkFault
  pub puts : Puts out before out' now put (last_line r)
  pub is : pass ≡ record { events = r.events; whole = r.whole; result = write_ended r.whole put }

-- ---- on the way

-- this much was written so far
pub record HasWritten (out : Option (List ℕ)) (before : ℕ) (out' : Option (List ℕ)) (now : ℕ) (bs : List ℕ) : Type 0 where
  pub sent : Sent out out' bs
  pub later : before ≤ now
