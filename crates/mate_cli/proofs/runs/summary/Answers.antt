-- The summary is that of a report of the run.
use Rattle.std.proofs.Common.{ℕ, Bool, true, List, Ok, Err, sym, inl, inr, refl, ◌∙◌, ap, subst}
use Rattle.vm_shape.specs.declared.description.Description.{Description}
use Rattle.command_documents.specs.Owed.{a_text}
use Rattle.report_writer.specs.Summary.{summary_text}
use Rattle.report_writer.specs.declared.summary.Summary.{Summary}
use Rattle.command_steps.specs.Steps.{goes_on, stops}
use Rattle.command_refusals.specs.declared.refusal.Refusal.TheVariants.{NoMemory}
use Rattle.report_writer.specs.Runs.{IsRunSummary}
use Rattle.report_writer.proofs.SummaryLemmas.{text-same}
use Rattle.mate_journal.specs.declared.program.Program.{Program}
use Rattle.mate_journal.specs.declared.report.Report.{Report}
use Rattle.command_documents.specs.declared.output.Run.{Run}
use Rattle.command_documents.specs.declared.output.Run.TheVariants as run
use Rattle.report_writer.specs.Writing.{OfRun, IsEnded}
use Rattle.node_runs.specs.Running.{IsScriptReport, IsReportOf}
use Rattle.script_steps.specs.Steps.{NodeScript}
use Rattle.world_run_laws.specs.Promise.{IsReportOfWorld}
use Rattle.mate_cli.specs.Runs.{output_of, run_output}
use Rattle.mate_cli.proofs.runs.summary.Goals as goal

-- what is owed of a run, from the summary of a report that ended
owed : (d : Description) (Is Asked : OfRun) (x : Run) (s : Summary) → ((r : Report) → IsEnded Is r → IsEnded Asked r) → IsRunSummary d Is s → output_of true d Asked x (Ok (a_text s.whole (summary_text d s)))
owed d Is Asked x s asked is =
    goes_on is.report (asked is.report is.ended)
    (ap (λ (whole : Bool). a_text whole (summary_text d s)) is.of.whole ∙ ap (λ (bs : List ℕ). a_text is.report.whole bs) (text-same d s is.report is.of))

ended : (d : Description) (s : NodeScript) (ps : List Program) (r : Report) → IsEnded (IsReportOf d s ps) r → IsEnded (IsScriptReport d s ps) r
ended d s ps r (inl whole) = inl whole.report
ended d s ps r (inr full) = inr full.report

pub returns-in-Ok-clause-does : goal.returns-in-Ok-clause-does
returns-in-Ok-clause-does c =
    let d = c.in-Script.machine in
    let s = c.in-Script.script in
    let ps = c.in-Script.programs in
    let sum = c.in-Ok.summary in
    let is : IsRunSummary d (IsReportOf d s ps) sum = subst (λ (d : Description). IsRunSummary d (IsReportOf d s ps) sum) c.description.ensures c.in-Ok.ensures in
    subst (λ (r : Run). run_output true r (Ok (a_text sum.whole (summary_text d sum)))) (sym c.in-Script.is) (owed d (IsReportOf d s ps) (IsScriptReport d s ps) (run.Script d s ps) sum (ended d s ps) is)

pub returns-in-Ok-sum_world-clause-does : goal.returns-in-Ok-sum_world-clause-does
returns-in-Ok-sum_world-clause-does c =
    let d = c.in-World.machine in
    let w = c.in-World.world in
    let ps = c.in-World.programs in
    let sum = c.in-Ok-sum_world.summary in
    let is : IsRunSummary d (IsReportOfWorld d w ps) sum = subst (λ (d : Description). IsRunSummary d (IsReportOfWorld d w ps) sum) c.description-in-World.ensures c.in-Ok-sum_world.ensures in
    subst (λ (r : Run). run_output true r (Ok (a_text sum.whole (summary_text d sum)))) (sym c.in-World.is) (owed d (IsReportOfWorld d w ps) (IsReportOfWorld d w ps) (run.World d w ps) sum (λ r e. e) is)

pub returns-in-Err-clause-does : goal.returns-in-Err-clause-does
returns-in-Err-clause-does c = subst (λ (r : Run). run_output true r (Err NoMemory)) (sym c.in-Script.is) (stops NoMemory refl refl)

pub returns-in-Err-sum_world-clause-does : goal.returns-in-Err-sum_world-clause-does
returns-in-Err-sum_world-clause-does c = subst (λ (r : Run). run_output true r (Err NoMemory)) (sym c.in-World.is) (stops NoMemory refl refl)
