-- What a call of the program owes, and how it ends.
use Rattle.std.specs.Prelude.{◌≡◌, ℕ, Bool, true, false, List, Option, None, Some, Result, Ok, Err, ⊤, ◌⊎◌}
use Rattle.std.specs.Io.KnownBytes.{Keeps, append_known}
use Rattle.mate_files.specs.Counts.{Rose}
use Rattle.mate_files.specs.Sink.{Sent, SentPart, SentShort}
use Rattle.command_line.specs.Commands.{Task, Node, Sim, Gen, Table, Compile, Check, Expand, Feed, Audit, Says, SaysNothing}
use Rattle.command_refusals.specs.Refusals.{TellsRefusal}
use Rattle.command_refusals.specs.declared.status.Status.{Status}
use Rattle.command_refusals.specs.declared.status.Status.TheVariants.{Ok as AllDone}
use Rattle.command_refusals.specs.declared.refusal.Refusal.{Refusal}
use Rattle.command_refusals.specs.declared.refusal.Refusal.TheVariants.{Usage, LogFull, SinkFault, NoMemory}
use Rattle.command_documents.specs.Check.{check}
use Rattle.command_documents.specs.Compile.{compile}
use Rattle.command_documents.specs.Expand.{expand}
use Rattle.command_documents.specs.Feed.{feed}
use Rattle.mate_cli.specs.Audit.{audit}
use Rattle.mate_cli.specs.Node.{node}
use Rattle.mate_cli.specs.Worlds.{sim, made_run}
use Rattle.command_steps.specs.Parts.{Folder, IsUnreadAnswer}
use Rattle.command_steps.specs.Steps.{judged, ◌▸◌}
use Rattle.command_documents.specs.Table.{opcode_table}
use Rattle.command_documents.specs.Owed.{Owed, a_text, a_run}
use Rattle.command_documents.specs.declared.output.Run.{Run}
use Rattle.command_documents.specs.declared.output.Run.TheVariants as run
use Rattle.mate_journal.specs.NodeScript.{Whole, Full}
use Rattle.mate_journal.specs.declared.report.Report.{Report}
use Rattle.report_writer.specs.Text.{text}
use Rattle.node_runs.specs.Running.{IsReportOf}
use Rattle.report_writer.specs.Writing.{OfRun, IsWrittenPart, IsWrittenShort, IsNothingRun}
use Rattle.report_writer.specs.declared.write_fault.WriteFault.{WriteFault}
use Rattle.report_writer.specs.declared.write_fault.WriteFault.TheVariants as fault
use Rattle.vm_shape.specs.declared.description.Description.{Description}
use Rattle.world_run_laws.specs.Promise.{IsReportOfWorld}

abbrev pub command : Folder → Task → Result Owed Refusal → Type 0
command f (Node fold brief vm script) = node f fold brief vm script
command f (Sim fold brief vm script) = sim f fold brief vm script
command f (Gen fold brief number vm) = made_run f fold brief number vm
command f (Table vm) = opcode_table f vm
command f (Compile fold vm h version name) = compile f fold vm h version name
command f (Check vm name) = check f vm name
command f (Expand name) = expand f name
command f (Feed vm name) = feed f vm name
command f (Audit fold vm script report) = audit f fold vm script report

-- the task that the words say
abbrev pub task : List (List ℕ) → Result Task Refusal → Type 0
task words = judged (Says words) (λ (_ : ⊤). SaysNothing words) (λ _. Usage)

-- what the words are owed: an output, or the first refusal
abbrev pub Owes : Folder → List (List ℕ) → Result Owed Refusal → Type 0
Owes f words = task words ▸ command f

-- a sink before the call or after it: what was written, and how many writes failed
pub record SinkState : Type 0 where
  pub written : Option (List ℕ)
  pub faults : ℕ

-- How the writing of a text ends that reports a whole run, or one that a full log ended: with no refusal, or with this one.
pub data IsTextWritten (bs : List ℕ) (whole : Bool) (s t : SinkState) (ending : Option Refusal) : Type 0 where
  -- all of it was written
  done : whole ≡ true → Sent s.written t.written bs → ending ≡ None → IsTextWritten bs whole s t ending
  -- all of it was written, of a run that a full log ended
  full : whole ≡ false → Sent s.written t.written bs → ending ≡ Some LogFull → IsTextWritten bs whole s t ending
  -- the sink failed, and a prefix of it was written that lacks at least its last byte
  failed : SentShort s.written t.written bs → Rose s.faults t.faults → ending ≡ Some SinkFault → IsTextWritten bs whole s t ending
  -- memory ran out, and a prefix of it was written
  wanting : SentPart s.written t.written bs → ending ≡ Some NoMemory → IsTextWritten bs whole s t ending

-- How the writing of a run ends, on nodes of this machine, where these reports are of the run. Its report is that of the events that
-- ended.
pub data IsRunWritten (d : Description) (Is : OfRun) (s t : SinkState) (ending : Option Refusal) : Type 0 where
  -- the whole text of the report of the whole run was written
  whole : (r : Report) → Is Whole r → Sent s.written t.written (text d r) → ending ≡ None → IsRunWritten d Is s t ending
  -- the log was full before an event, and the whole text of the report up to there was written
  stopped : (r : Report) → Is Full r → Sent s.written t.written (text d r) → ending ≡ Some LogFull → IsRunWritten d Is s t ending
  -- the sink failed, and a prefix of the report's text was written that lacks at least its last byte, with all lines of its events but
  -- those of the last one; of a run that was cut no last line was
  unwritten : (r : Report) → IsWrittenShort d Is s.written t.written r → Rose s.faults t.faults → ending ≡ Some SinkFault
      → IsRunWritten d Is s t ending
  -- memory ran out; such a prefix was written, or nothing was run
  cut : (r : Report) → IsNothingRun s.written t.written r ⊎ IsWrittenPart d Is s.written t.written r → ending ≡ Some NoMemory
      → IsRunWritten d Is s t ending

-- How the writing of the run's report ends.
abbrev pub IsReportWritten : Run → SinkState → SinkState → Option Refusal → Type 0
IsReportWritten (run.Script d script ps) s t ending = IsRunWritten d (IsReportOf d script ps) s t ending
IsReportWritten (run.World d w ps) s t ending = IsRunWritten d (IsReportOfWorld d w ps) s t ending

-- How the writing of what is owed ends.
abbrev pub IsOwedWritten : Owed → SinkState → SinkState → Option Refusal → Type 0
IsOwedWritten (a_text all bs) s t ending = IsTextWritten bs all s t ending
IsOwedWritten (a_run r) s t ending = IsReportWritten r s t ending

-- How a call's work ends, with the counts of the files' faults before it and after it.
pub data WorkEnds (f : Folder) (words : List (List ℕ)) (before now : ℕ) (s t : SinkState) (ending : Option Refusal) : Type 0 where
  -- what is owed was written, as far as it could be
  written : (o : Owed) → Owes f words (Ok o) → IsOwedWritten o s t ending → WorkEnds f words before now s t ending
  -- nothing was written; a file could not be read only if the count rose
  refused : (r : Refusal) → Owes f words (Err r) → (IsUnreadAnswer {A = Owed} (Err r) → Rose before now) → t.written ≡ s.written
      → ending ≡ Some r → WorkEnds f words before now s t ending

-- the status for an ending: if that is a refusal, its line goes to `err`
abbrev pub TellsEnding : Option Refusal → SinkState → SinkState → Status → Type 0
TellsEnding None s t status = (t.written ≡ s.written) × (status ≡ AllDone)
TellsEnding (Some r) s t status = TellsRefusal s.written s.faults t.written t.faults r status

-- the sinks before the call or after it
pub record Sinks : Type 0 where
  pub out : SinkState
  pub err : SinkState

-- How a call ends.
pub record CallEnds (f : Folder) (words : List (List ℕ)) (before now : ℕ) (s t : Sinks) (status : Status) : Type 0 where
  pub ending : Option Refusal
  pub work : WorkEnds f words before now s.out t.out ending
  pub told : TellsEnding ending s.err t.err status

-- ---- with a buffer before the writer

-- an ending at which all that is owed was written
abbrev pub IsAllWritten : Option Refusal → Type 0
IsAllWritten ending = (ending ≡ None) ⊎ (ending ≡ Some LogFull)

-- What the writer has got of the bytes that were put: all, or a prefix of them. If all that is owed was put, and the writer may lack some
-- of it, that is refused.
pub data IsHandedOn (came : Option Refusal) (put got : Option (List ℕ)) (ending : Option Refusal) : Type 0 where
  all_came : Keeps put got → ending ≡ came → IsHandedOn came put got ending
  lost : (rest : List ℕ) → Keeps put (append_known got rest) → IsAllWritten came → ending ≡ Some SinkFault → IsHandedOn came put got ending
  part_came : (rest : List ℕ) → Keeps put (append_known got rest) → (IsAllWritten came → ⊥) → ending ≡ came → IsHandedOn came put got ending

-- How a call ends that puts its output to a buffer: `out` has what the buffer and the writer held before, and `got` what the writer has at
-- the end.
pub record BufferedCallEnds (f : Folder) (words : List (List ℕ)) (before now : ℕ) (out got : Option (List ℕ)) (s t : SinkState)
    (status : Status) : Type 0 where
  pub put : SinkState
  pub came : Option Refusal
  pub work : WorkEnds f words before now (record { written = out; faults = 0 }) put came
  pub ending : Option Refusal
  pub handed_on : IsHandedOn came put.written got ending
  pub told : TellsEnding ending s t status

-- ---- on the way

-- the refusal for a run, or for a text, that was not written whole
abbrev pub run_refusal : WriteFault → Refusal
run_refusal fault.LogFull = LogFull
run_refusal fault.NoMemory = NoMemory
run_refusal fault.Sink = SinkFault

-- the ending of a writing
abbrev pub ending_of : Result (Unit {0}) WriteFault → Option Refusal
ending_of (Ok all) = None
ending_of (Err why) = Some (run_refusal why)

-- the ending of a call's work
abbrev pub refusal_in : Result (Unit {0}) Refusal → Option Refusal
refusal_in (Ok all) = None
refusal_in (Err r) = Some r

-- what a call came to, after the buffer was flushed or could not be
abbrev pub after_flush : Bool → Result (Unit {0}) Refusal → Result (Unit {0}) Refusal
after_flush true came = came
after_flush false (Ok _) = Err SinkFault
after_flush false (Err LogFull) = Err SinkFault
after_flush false (Err r) = Err r
