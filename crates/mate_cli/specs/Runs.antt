-- What is written of a run, of a node script or of a world.
use Rattle.std.specs.Prelude.{Bool, true, false, Result}
use Rattle.command_documents.specs.Owed.{Owed, a_text, a_run, exactly}
use Rattle.command_documents.specs.declared.output.Run.{Run}
use Rattle.command_documents.specs.declared.output.Run.TheVariants.{Script, World}
use Rattle.report_writer.specs.Brief.{brief}
use Rattle.mate_journal.specs.declared.report.Report.{Report}
use Rattle.command_refusals.specs.declared.refusal.Refusal.{Refusal}
use Rattle.command_steps.specs.Steps.{obtained, ◌▸◌}
use Rattle.report_writer.specs.Writing.{OfRun, IsEnded}
use Rattle.node_runs.specs.Running.{IsScriptReport}
use Rattle.vm_shape.specs.declared.description.Description.{Description}
use Rattle.world_run_laws.specs.Promise.{IsReportOfWorld}

-- the report of a run
abbrev pub report_of : OfRun → Result Report Refusal → Type 0
report_of Is = obtained (IsEnded Is)

-- the run, whose report is written event by event; with `--brief` the summary of its report, when it has ended
abbrev pub output_of : (brief : Bool) → Description → OfRun → Run → Result Owed Refusal → Type 0
output_of false d Is run = exactly (a_run run)
output_of true d Is run = report_of Is ▸ λ r. exactly (a_text r.whole (brief d r))

abbrev pub run_output : (brief : Bool) → Run → Result Owed Refusal → Type 0
run_output brief (Script d s ps) = output_of brief d (IsScriptReport d s ps) (Script d s ps)
run_output brief (World d w ps) = output_of brief d (IsReportOfWorld d w ps) (World d w ps)
