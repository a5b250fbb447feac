-- The run of a node script: what it gives, and what it keeps on its way.
use Rattle.std.specs.Prelude.{◌≡◌, ◌≤◌, ◌<◌, ◌^◌, ℕ, Bool, List, [], ◌∷◌, length, map, Result, Ok, Err}
use Rattle.mate_num.specs.declared.call.Stamp.{Stamp}
use Rattle.vm_shape.specs.declared.description.Description.{Description}
use Rattle.script_steps.specs.Steps.{NodeScript}
use Rattle.script_steps.specs.declared.steps.Step.{Step}
use Rattle.mate_journal.specs.Log.{Log}
use Rattle.mate_journal.specs.Journal.{JournalEntry, journal_of, first_state}
use Rattle.mate_journal.specs.Pace.{Pace, no_pace}
use Rattle.mate_journal.specs.NodeScript as node
use Rattle.mate_journal.specs.NodeScript.{RunEnd, Whole, Full, Makes, HaveMade}
use Rattle.mate_journal.specs.NodeReport.{IsNodeReport}
use Rattle.mate_journal.specs.Ranges.{HasReportRanges}
use Rattle.mate_journal.specs.declared.program.Program.{Program}
use Rattle.mate_journal.specs.declared.report.Report.{Report}
use Rattle.mate_journal.specs.declared.report.RunFault.{RunFault}
use Rattle.mate_journal.specs.declared.report.RunFault.TheVariants.{LogFull, NoMemory}
use Rattle.mate_journal.specs.declared.report.TheConstants.{RECORDS_MAX}
use Rattle.journal_laws.specs.Growth.{EndsWithPace}
use Rattle.node_state.specs.Meaning.{machine_in}
use Rattle.node_state.specs.Keeps.{IsTimely}
use Rattle.node_open.specs.declared.open_node.TheConstants.{SETTLING_ENTRIES}
use Rattle.node_open.specs.View.{NodeView, heard_of, HasPace}
use Rattle.journal_laws.specs.InRange.{IsInRange}
use Rattle.node_programs.specs.Sources.{meaning_by}
use Rattle.node_programs.specs.ScriptSteps.{step_of, steps_of}

-- ---- what a run gives

-- a report of the script with its programs, by their sources; turns are counted in instructions of the installed code
abbrev pub IsScriptReport : Description → NodeScript → List Program → RunEnd → Report → Type 0
IsScriptReport d script ps how r = IsNodeReport d (meaning_by d ps) (steps_of script ps) how r

-- such a report whose numbers are in the ranges of their types, so that its text is read back
pub record IsReportOf (d : Description) (script : NodeScript) (ps : List Program) (how : RunEnd) (r : Report) : Type 0 where
  pub report : IsScriptReport d script ps how r
  pub ranges : HasReportRanges r

-- a whole report, or one whose log is full before a step
abbrev pub RunGives : Description → NodeScript → List Program → Result Report RunFault → Type 0
RunGives d script ps (Ok r) = IsReportOf d script ps Whole r
RunGives d script ps (Err (LogFull r)) = IsReportOf d script ps Full r
RunGives d script ps (Err NoMemory) = Unit {0}

-- the report of one node with this log, and nothing on the air
abbrev pub report_with : Log → ℕ → Bool → Report
report_with l events whole = record { nodes = l ∷ []; air = []; events = events; whole = whole }

-- ---- on the way

-- an event of this stamp can be made on the node, whatever its step is
pub record IsReadyFor (v : NodeView) (at : Stamp) : Type 0 where
  pub timely : IsTimely at v.log
  pub few : length v.log.entries < RECORDS_MAX
  pub room : SETTLING_ENTRIES ≤ v.log.spare

-- what a step makes on a node
abbrev pub MakesOn : NodeView → node.Step → Pace → List JournalEntry → Pace → Type 0
MakesOn v step p told q = Makes (machine_in v.description) (heard_of v) p step told q

-- the stamp of an event of a script
abbrev pub stamp_at : ℕ → Stamp
stamp_at n = record { event = n; time = 0 }

-- the node made these steps, one event each
pub record HasRun (d : Description) (ps : List Program) (done : List Step) (v : NodeView) : Type 0 where
  pub description : v.description ≡ d
  pub pace : Pace
  pub has : HasPace v pace
  pub made : HaveMade (EndsWithPace pace) (machine_in d) 0 1 (first_state (machine_in d)) no_pace (map (step_of ps) done) (journal_of v.log)
  pub timely : IsTimely (stamp_at (length done)) v.log
  pub ranges : IsInRange v.log v.gone
  pub few : length done < 2 ^ 64
