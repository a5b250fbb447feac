-- The texts that outputs are.
use Rattle.std.specs.Prelude.{◌≡◌, ℕ, Bool, true, false, not, List}
use Rattle.command_documents.specs.Owed.{Owed, a_text, a_run}
use Rattle.command_documents.specs.declared.output.Run.{Run}
use Rattle.command_documents.specs.declared.output.Run.TheVariants as run
use Rattle.mate_journal.specs.NodeScript.{RunEnd, Whole, Full}
use Rattle.mate_journal.specs.declared.report.Report.{Report}
use Rattle.report_writer.specs.Text.{text}
use Rattle.node_runs.specs.Running.{IsReportOf}
use Rattle.report_writer.specs.Writing.{OfRun}
use Rattle.vm_shape.specs.declared.description.Description.{Description}
use Rattle.world_run_laws.specs.Promise.{IsReportOfWorld}

-- how a run ended by itself
abbrev pub run_end : (full : Bool) → RunEnd
run_end false = Whole
run_end true = Full

-- the text of a report of a run that ended so
pub record IsRunText (d : Description) (Is : OfRun) (how : RunEnd) (bs : List ℕ) : Type 0 where
  pub report : Report
  pub ended : Is how report
  pub text_is : bs ≡ text d report

-- the text of a report of this run, which says whether a full log ended it
abbrev pub IsReportText : (full : Bool) → Run → List ℕ → Type 0
IsReportText full (run.Script d script ps) bs = IsRunText d (IsReportOf d script ps) (run_end full) bs
IsReportText full (run.World d w ps) bs = IsRunText d (IsReportOfWorld d w ps) (run_end full) bs

-- a text of what is owed, likewise
abbrev pub IsOutputText : (full : Bool) → Owed → List ℕ → Type 0
IsOutputText full (a_text whole it) bs = (whole ≡ not full) × (bs ≡ it)
IsOutputText full (a_run r) bs = IsReportText full r bs
