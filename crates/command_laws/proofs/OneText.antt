-- Outputs that are the same have one text.
use Rattle.std.proofs.Common.{◌≡◌, ℕ, Bool, true, false, List, sym, ◌∙◌, ap, subst}
use Rattle.command_laws.specs.SameText.{SameText, IsSameNodeRun, IsOneRun, IsSameWorld}
use Rattle.command_laws.specs.Texts.{run_end, IsRunText, IsReportText, IsOutputText}
use Rattle.report_laws.specs.Ending.{EndsByItself}
use Rattle.report_laws.proofs.OneText.{text-once}
use Rattle.command_documents.specs.Owed.{Owed, a_text, a_run}
use Rattle.command_documents.specs.declared.output.Run.{Run}
use Rattle.command_documents.specs.declared.output.Run.TheVariants as run
use Rattle.mate_journal.specs.Machine.{Meaning}
use Rattle.mate_journal.specs.NodeReport.{IsNodeReport}
use Rattle.mate_journal.specs.NodeScript.{Step, RunEnd}
use Rattle.mate_journal.specs.declared.program.Program.{Program}
use Rattle.mate_journal.specs.declared.report.Report.{Report}
use Rattle.node_programs.specs.ScriptSteps.{steps_of}
use Rattle.node_programs.specs.Sources.{meaning_by}
use Rattle.report_writer.specs.Text.{text}
use Rattle.node_runs.specs.Running.{IsReportOf}
use Rattle.script_steps.specs.Steps.{NodeScript}
use Rattle.vm_shape.specs.declared.description.Description.{Description}
use Rattle.report_laws.specs.OneReport.{WorldHasOneReport}
use Rattle.world_rules.specs.Report.{IsWorldReport}
use Rattle.world_rules.specs.World.{World as Rules}
use Rattle.script_steps.specs.World.{IsRightWorld}
use Rattle.script_steps.specs.declared.world.World.{World}
use Rattle.world_run_laws.specs.SourceWorld.{source_world}
use Rattle.world_run_laws.specs.Promise.{IsReportOfWorld}

pub itself : (full : Bool) → EndsByItself (run_end full)
itself false = tt
itself true = tt

-- a report of the same run on the same machine is one of the other
moved-report : (d d' : Description) (m m' : Meaning) (steps steps' : List Step) (how : RunEnd) (r : Report) → d ≡ d' → m ≡ m' → steps ≡ steps' → IsNodeReport d' m' steps' how r
    → IsNodeReport d m steps how r
moved-report d d' m m' steps steps' how r machine meaning same is =
    subst (λ (x : Description). IsNodeReport x m steps how r) (sym machine)
    (subst (λ (x : Meaning). IsNodeReport d' x steps how r) (sym meaning) (subst (λ (x : List Step). IsNodeReport d' m' x how r) (sym same) is))

run-once : (d d' : Description) (s s' : NodeScript) (ps ps' : List Program) → IsSameNodeRun d d' s s' ps ps' → (full full' : Bool) (bs bs' : List ℕ) → IsRunText d (IsReportOf d s ps) (run_end full) bs
    → IsRunText d' (IsReportOf d' s' ps') (run_end full') bs' → bs ≡ bs'
run-once d d' s s' ps ps' same full full' bs bs' is is' =
    let other = moved-report d d' (meaning_by d ps) (meaning_by d' ps') (steps_of s ps) (steps_of s' ps') (run_end full') is'.report same.machine same.meaning same.steps is'.ended.report in
    is.text_is
    ∙ text-once d (meaning_by d ps) (steps_of s ps) (run_end full) (run_end full') is.report is'.report (itself full) (itself full') is.ended.report other
    ∙ ap (λ (x : Description). text x is'.report) same.machine ∙ sym is'.text_is

-- the world of a right script has one report
abbrev pub WorldsHaveOneReport : Type 0
WorldsHaveOneReport = (d : Description) (w : World) (ps : List Program) → IsRightWorld d w → WorldHasOneReport (source_world d w ps)

world-once : WorldsHaveOneReport → (d d' : Description) (w w' : World) (ps ps' : List Program) → IsSameWorld d d' w w' ps ps' → (full full' : Bool) (bs bs' : List ℕ)
    → IsRunText d (IsReportOfWorld d w ps) (run_end full) bs → IsRunText d' (IsReportOfWorld d' w' ps') (run_end full') bs' → bs ≡ bs'
world-once law d d' w w' ps ps' same full full' bs bs' is is' =
    let other = subst (λ (x : Rules). IsWorldReport x (run_end full') is'.report) (sym same.meaning) is'.ended.run in
    is.text_is
    ∙ (law d w ps is.ended.right.world (run_end full) (run_end full') is.report is'.report (itself full) (itself full') is.ended.run other).0.text
    ∙ ap (λ (x : Description). text x is'.report) same.machine ∙ sym is'.text_is

report-text : WorldsHaveOneReport → (r r' : Run) → IsOneRun r r' → (full full' : Bool) (bs bs' : List ℕ) → IsReportText full r bs → IsReportText full' r' bs' → bs ≡ bs'
report-text law (run.Script d s ps) (run.Script d' s' ps') same full full' bs bs' is is' = run-once d d' s s' ps ps' same full full' bs bs' is is'
report-text law (run.Script d s ps) (run.World d' w ps') same full full' bs bs' is is' = absurd same
report-text law (run.World d w ps) (run.Script d' s ps') same full full' bs bs' is is' = absurd same
report-text law (run.World d w ps) (run.World d' w' ps') same full full' bs bs' is is' = world-once law d d' w w' ps ps' same full full' bs bs' is is'

pub one-text : WorldsHaveOneReport → (o o' : Owed) → SameText o o' → (full full' : Bool) (bs bs' : List ℕ) → IsOutputText full o bs → IsOutputText full' o' bs' → bs ≡ bs'
one-text law (a_text w x) (a_text w' x') same full full' bs bs' is is' = is.1 ∙ same ∙ sym is'.1
one-text law (a_text w x) (a_run r) same full full' bs bs' is is' = absurd same
one-text law (a_run r) (a_text w x) same full full' bs bs' is is' = absurd same
one-text law (a_run r) (a_run r') same full full' bs bs' is is' = report-text law r r' same full full' bs bs' is is'
