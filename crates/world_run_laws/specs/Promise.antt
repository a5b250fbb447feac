-- What a run promises of the report of a world.
use Rattle.std.specs.Prelude.{List, Result, Ok, Err, All}
use Rattle.vm_shape.specs.declared.description.Description.{Description}
use Rattle.mate_journal.specs.Log.{Log}
use Rattle.mate_journal.specs.Journal.{journal_of, first_state}
use Rattle.mate_journal.specs.NodeScript.{RunEnd, Whole, Full}
use Rattle.mate_journal.specs.Ranges.{HasReportRanges}
use Rattle.mate_journal.specs.declared.program.Program.{Program}
use Rattle.mate_journal.specs.declared.report.Report.{Report}
use Rattle.mate_journal.specs.declared.report.RunFault.{RunFault}
use Rattle.mate_journal.specs.declared.report.RunFault.TheVariants.{LogFull, NoMemory}
use Rattle.journal_laws.specs.Apart.{EndAsPosted}
use Rattle.journal_laws.specs.Progress.{IsNeverStuck}
use Rattle.node_programs.specs.WorldPrograms.{AreProgramsOfWorld}
use Rattle.report_writer.specs.Tidy.{IsTidy}
use Rattle.script_steps.specs.declared.world.World.{World as Script}
use Rattle.world_rules.specs.Report.{IsWorldReport}
use Rattle.world_run_laws.specs.SourceWorld.{source_world}
use Rattle.world_run_laws.specs.Windows.{KeepsTheWindows}

-- It is a report of a run, that ends so, of the world whose programs, which are right, mean their sources. It is tidy, and
-- its numbers are in the ranges of their types: so its text is read back. Over each path of windows that it shows or its script
-- promises, whatever else is lost or suppressed, a version passes in time. In each node's journal, wherever no start follows, some
-- invocation is ready, or one waits for the outside, or none is live; and conflicting invocations end in the order of their posts.
pub record IsReportOfWorld (d : Description) (script : Script) (ps : List Program) (how : RunEnd) (r : Report) : Type 0 where
  pub right : AreProgramsOfWorld d script ps
  pub run : IsWorldReport (source_world d script ps) how r
  pub tidy : IsTidy d r
  pub ranges : HasReportRanges r
  pub windows : KeepsTheWindows d script r
  pub progress : All (λ (l : Log). IsNeverStuck (source_world d script ps).machine (first_state (source_world d script ps).machine)
      (journal_of l)) r.nodes
  pub order : All (λ (l : Log). EndAsPosted (source_world d script ps).machine (first_state (source_world d script ps).machine)
      (journal_of l)) r.nodes

-- a whole report, or one whose records are too many before an event
abbrev pub WorldRunGives : Description → Script → List Program → Result Report RunFault → Type 0
WorldRunGives d script ps (Ok r) = IsReportOfWorld d script ps Whole r
WorldRunGives d script ps (Err (LogFull r)) = IsReportOfWorld d script ps Full r
WorldRunGives d script ps (Err NoMemory) = Unit {0}
