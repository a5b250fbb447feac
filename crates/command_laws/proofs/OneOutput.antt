-- What is written of a run has one answer, if its reports have one summary.
use Rattle.std.proofs.Common.{◌≡◌, inl, inr, Bool, true, false, sym, subst}
use Rattle.command_laws.specs.SameText.{SameText, IsOneRun}
use Rattle.report_laws.specs.Ending.{EndsByItself}
use Rattle.mate_cli.specs.Runs.{output_of}
use Rattle.command_documents.specs.Owed.{Owed, a_text, a_run, exactly}
use Rattle.command_documents.specs.declared.output.Run.{Run}
use Rattle.mate_journal.specs.NodeScript.{RunEnd, Whole, Full}
use Rattle.mate_journal.specs.declared.report.Report.{Report}
use Rattle.command_steps.specs.OneAnswer.{AnswersAgree}
use Rattle.command_steps.proofs.OneAnswer.{then_agrees}
use Rattle.report_writer.specs.Brief.{brief}
use Rattle.report_writer.specs.Writing.{OfRun, IsEnded}
use Rattle.command_programs.proofs.OnePrograms.{obtained_agrees}
use Rattle.vm_shape.specs.declared.description.Description.{Description}

-- what is owed is the same where these two are
same_outputs : (a b o n : Owed) → SameText a b → o ≡ a → n ≡ b → SameText o n
same_outputs a b o n same is is' = subst (λ (x : Owed). SameText x n) (sym is) (subst (λ (x : Owed). SameText a x) (sym is') same)

pub exactly_agrees : (a b : Owed) → SameText a b → AnswersAgree SameText (exactly a) (exactly b)
exactly_agrees a b same = obtained_agrees SameText (λ o. o ≡ a) (λ o. o ≡ b) (λ o n is is'. same_outputs a b o n same is is')

module _ (d : Description) (Is Has : OfRun) (run run' : Run) (once : (how how' : RunEnd) (r r' : Report) → EndsByItself how → EndsByItself how' → Is how r → Has how' r' → brief d r ≡ brief d r') (same : IsOneRun run run') where
  brief_ended : (r r' : Report) → IsEnded Is r → IsEnded Has r' → brief d r ≡ brief d r'
  brief_ended r r' (inl a) (inl b) = once Whole Whole r r' tt tt a b
  brief_ended r r' (inl a) (inr b) = once Whole Full r r' tt tt a b
  brief_ended r r' (inr a) (inl b) = once Full Whole r r' tt tt a b
  brief_ended r r' (inr a) (inr b) = once Full Full r r' tt tt a b

  pub output_agrees : (short : Bool) → AnswersAgree SameText (output_of short d Is run) (output_of short d Has run')
  output_agrees false = exactly_agrees (a_run run) (a_run run') same
  output_agrees true =
      then_agrees (λ r r'. brief d r ≡ brief d r') SameText _ _ _ _ (obtained_agrees (λ r r'. brief d r ≡ brief d r') (IsEnded Is) (IsEnded Has) brief_ended)
      (λ r r' told. exactly_agrees (a_text r.whole (brief d r)) (a_text r'.whole (brief d r')) told)
