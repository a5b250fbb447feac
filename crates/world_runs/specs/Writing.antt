-- The run of a world whose lines are written as its events end, and whose report may be recorded.
use Rattle.std.specs.Prelude.{◌≡◌, ℕ, ◌<◌, Bool, List, length, slice_get, IsSomeAnd, Option, Some, Result, Ok, Err, false}
use Rattle.mate_journal.specs.NodeScript.{RunEnd}
use Rattle.mate_journal.specs.Ranges.{HasReportRanges}
use Rattle.mate_journal.specs.declared.air.Aired.{Aired}
use Rattle.mate_journal.specs.declared.report.Report.{Report}
use Rattle.report_writer.specs.Text.{lines}
use Rattle.world_runs.specs.declared.record.Record.{Record}
use Rattle.report_writer.specs.Writing.{OfRun, HasWritten, WritesReport}
use Rattle.report_writer.specs.declared.pass.Pass.{Pass}
use Rattle.report_writer.specs.declared.write_fault.WriteFault.{WriteFault}
use Rattle.vm_shape.specs.declared.description.Description.{Description}
use Rattle.world_rules.specs.World.{World}
use Rattle.world_rules.specs.State.{Moment, state}
use Rattle.world_rules.specs.Run.{HaveCome, IsAtEnd, airs}
use Rattle.world_rules.specs.Report.{IsWorldReport}
use Rattle.world_state.specs.StandingAfter.{IsMoteAfter}
use Rattle.world_state.specs.Keeping.{IsWhole}
use Rattle.world_state.specs.Ranging.{AreInRange}
use Rattle.world_state.specs.Reporting.{mote_logs, told_report}
use Rattle.world_state.specs.declared.mote.Mote.{Mote}
use Rattle.world_state.specs.Telling.{report_now, LogsAreKept}
use Rattle.world_state.specs.Running.{StandsAfter}
use Rattle.world_runs.specs.Recording.{IsRecorded}
use Rattle.world_state.specs.declared.simulation.Simulation.{Simulation}

-- ---- what a part of a run writes

-- this much of a world's report was written so far
abbrev pub HasWrittenNow : Description → Simulation → Option (List ℕ) → ℕ → Option (List ℕ) → ℕ → Type 0
HasWrittenNow d s out0 f0 out f = HasWritten out0 f0 out f (lines d (report_now s))

-- there is a report of a run that was written so, and it is what is recorded, if a record is kept
pub record WritesRecorded (d : Description) (Is : OfRun) (out out' : Option (List ℕ)) (before now : ℕ) (pass : Pass)
    (kept : Option Record) : Type 0 where
  pub ended : Simulation
  pub gives : WritesReport d Is out out' before now pass.result (told_report ended pass.events pass.whole)
  pub recorded : IsRecorded kept ended
  pub ranges : HasReportRanges (told_report ended pass.events pass.whole)

-- the report of these nodes and of what happened on the air
abbrev pub report_of : List Mote → List Aired → ℕ → Bool → Report
report_of motes air events whole = record { nodes = mote_logs motes; air = air; events = events; whole = whole }

-- wherever the run's report began in the sink, the run ended so
abbrev pub EndsSo : Description → World → Simulation → Option (List ℕ) → ℕ → Option (List ℕ) → ℕ → Pass → Option Record → Type 0
EndsSo d w s out f out' f' pass kept = (out0 : Option (List ℕ)) (f0 : ℕ) → HasWrittenNow d s out0 f0 out f
    → WritesRecorded d (IsWorldReport w) out0 out' f0 f' pass kept

-- a world before its first event, with the record of its start
pub record StartsRecorded (w : World) (s : Simulation) (r : Record) : Type 0 where
  pub stands : StandsAfter w 0 s
  pub whole : IsWhole s
  pub recorded : IsRecorded (Some r) s
  pub ranges : AreInRange s

-- the start was written, or the run ended there
abbrev pub IsStartWritten : Description → World → Simulation → Option (List ℕ) → ℕ → Option (List ℕ) → ℕ → Result (Unit {0}) WriteFault
    → Type 0
IsStartWritten d w s out f out' f' (Ok all) = LogsAreKept s.motes.items × HasWrittenNow d s out f out' f'
IsStartWritten d w s out f out' f' (Err fault) = WritesReport d (IsWorldReport w) out out' f f' (Err fault) (told_report s 0 false)

-- one event came and was written, or the run ended there
abbrev pub IsStepWritten : Description → World → ℕ → (old new : Simulation) → Option (List ℕ) → ℕ → Option (List ℕ) → ℕ → Option Record
    → Result (Unit {0}) Pass → Type 0
IsStepWritten d w number old new out f out' f' kept (Ok all) =
    StandsAfter w number new × LogsAreKept new.motes.items × ((out0 : Option (List ℕ)) (f0 : ℕ) → HasWrittenNow d old out0 f0 out f
    → HasWrittenNow d new out0 f0 out' f') × IsRecorded kept new × AreInRange new
IsStepWritten d w number old new out f out' f' kept (Err pass) = EndsSo d w old out f out' f' pass kept

-- ---- the end

-- so the run ends: nothing is due any more, or the log is full before an event
pub record StandsAtEnd (w : World) (how : RunEnd) (events : ℕ) (s : Simulation) : Type 0 where
  pub moments : List Moment
  pub come : HaveCome w moments
  pub count : length moments ≡ events
  pub ends : IsAtEnd w how (state w moments)
  pub air : s.radio.air ≡ airs w moments
  pub nodes : length s.motes.items ≡ w.nodes
  pub each : (k : ℕ) → k < w.nodes → IsSomeAnd (slice_get s.motes.items k) (IsMoteAfter w moments k)
  pub kept : LogsAreKept s.motes.items
