-- The command `node` has one answer.
use Rattle.std.proofs.Common.{◌≡◌, ℕ, Bool, List, Result, refl, sym, subst}
use Rattle.command_laws.specs.SameText.{SameText, IsSameNodeRun}
use Rattle.command_laws.proofs.OneOutput.{output_agrees}
use Rattle.report_laws.specs.Ending.{EndsByItself}
use Rattle.report_laws.proofs.OneText.{brief-once}
use Rattle.mate_cli.specs.Node.{node}
use Rattle.mate_cli.specs.Runs.{run_output}
use Rattle.command_documents.specs.Owed.{Owed}
use Rattle.command_documents.specs.declared.output.Run.TheVariants as run
use Rattle.mate_files.specs.Files.{Names}
use Rattle.mate_journal.specs.Machine.{Meaning}
use Rattle.mate_journal.specs.NodeScript.{Step, RunEnd}
use Rattle.mate_journal.specs.NodeReport.{IsNodeReport}
use Rattle.mate_journal.specs.declared.program.Program.{Program}
use Rattle.mate_journal.specs.declared.report.Report.{Report}
use Rattle.command_refusals.specs.declared.refusal.Refusal.{Refusal}
use Rattle.command_steps.specs.OneAnswer.{AnswersAgree, steady}
use Rattle.command_steps.specs.Steps.{◌▸◌}
use Rattle.command_steps.proofs.OneAnswer.{then_agrees, machine_agrees}
use Rattle.node_programs.specs.ScriptSteps.{steps_of}
use Rattle.node_programs.specs.Sources.{meaning_by}
use Rattle.report_writer.specs.Brief.{brief}
use Rattle.node_runs.specs.Running.{IsScriptReport}
use Rattle.command_programs.specs.Programs.{script_programs}
use Rattle.command_programs.specs.SamePrograms.{SamePrograms}
use Rattle.command_programs.specs.Scripts.{script}
use Rattle.command_programs.proofs.OnePrograms.{script_agrees, programs_agree}
use Rattle.command_programs.proofs.SameMeaning.{steps-same, meaning-same}
use Rattle.script_steps.specs.Steps.{NodeScript}
use Rattle.vm_shape.specs.declared.description.Description.{Description}

-- by the same programs, the report is one of the other list's steps
by-same : (d : Description) (s : NodeScript) (ps qs : List Program) (how : RunEnd) (r : Report) → SamePrograms ps qs → IsScriptReport d s qs how r → IsNodeReport d (meaning_by d ps) (steps_of s ps) how r
by-same d s ps qs how r same is =
    subst (λ (steps : List Step). IsNodeReport d (meaning_by d ps) steps how r) (sym (steps-same s ps qs same))
    (subst (λ (m : Meaning). IsNodeReport d m (steps_of s qs) how r) (sym (meaning-same d ps qs same)) is)

module _ (d : Description) (s : NodeScript) (ps qs : List Program) (same : SamePrograms ps qs) where
  brief_once : (how how' : RunEnd) (r r' : Report) → EndsByItself how → EndsByItself how' → IsScriptReport d s ps how r → IsScriptReport d s qs how' r' → brief d r ≡ brief d r'
  brief_once how how' r r' itself itself' is is' =
      brief-once d (meaning_by d ps) (steps_of s ps) how how' r r' itself itself' is (by-same d s ps qs how' r' same is')

  run_same : IsSameNodeRun d d s s ps qs
  run_same = record { machine = refl; steps = steps-same s ps qs same; meaning = meaning-same d ps qs same }

  outputs_agree : (short : Bool) → AnswersAgree SameText (run_output short (run.Script d s ps)) (run_output short (run.Script d s qs))
  outputs_agree short = output_agrees d (IsScriptReport d s ps) (IsScriptReport d s qs) (run.Script d s ps) (run.Script d s qs) brief_once run_same short

pub node_agrees : (names : Names) (fold short : Bool) (vm name : List ℕ) → AnswersAgree SameText (node (steady names) fold short vm name) (node (steady names) fold short vm name)
node_agrees names fold short vm name =
    then_agrees ◌≡◌ SameText _ _ _ _ (machine_agrees names vm)
    (λ a b e. subst (λ (d : Description). AnswersAgree SameText (after_machine a) (after_machine d)) e (with_machine a)) where
      after_script : Description → NodeScript → Result Owed Refusal → Type 0
      after_script d s = script_programs (steady names) d fold s ▸ λ ps. run_output short (run.Script d s ps)

      after_machine : Description → Result Owed Refusal → Type 0
      after_machine d = script (steady names) d name ▸ after_script d

      with_script : (d : Description) (s : NodeScript) → AnswersAgree SameText (after_script d s) (after_script d s)
      with_script d s = then_agrees SamePrograms SameText _ _ _ _ (programs_agree names d fold s) (λ ps qs same. outputs_agree d s ps qs same short)

      with_machine : (d : Description) → AnswersAgree SameText (after_machine d) (after_machine d)
      with_machine d =
          then_agrees ◌≡◌ SameText _ _ _ _ (script_agrees names d name)
          (λ a b e. subst (λ (s : NodeScript). AnswersAgree SameText (after_script d a) (after_script d s)) e (with_script d a))
