-- Words have one answer, so what is owed comes.
use Rattle.std.proofs.Common.{◌≡◌, ℕ, Bool, true, false, not, inl, inr, List, Option, None, Some, Ok, Err, refl, subst}
use Rattle.command_line.specs.Commands.{Task, Node, Sim, Gen, Table, Compile, Check, Expand, Feed, Audit}
use Rattle.command_laws.specs.Completed.{IsUnhindered, Completes, whole, full, wanting}
use Rattle.command_laws.specs.SameText.{SameText}
use Rattle.command_laws.specs.Texts.{run_end, IsOutputText, IsRunText}
use Rattle.command_laws.proofs.OneAudit.{audit_agrees}
use Rattle.command_laws.proofs.OneCommand.{table_agrees, compile_agrees, check_agrees, expand_agrees, feed_agrees, task_agrees}
use Rattle.command_laws.proofs.OneNode.{node_agrees}
use Rattle.command_laws.proofs.OneText.{WorldsHaveOneReport}
use Rattle.command_laws.proofs.OneWorld.{sim_agrees, gen_agrees}
use Rattle.command_laws.proofs.Steady.{owes_steady}
use Rattle.mate_cli.specs.Ends as ends
use Rattle.mate_cli.specs.Ends.{command, Owes, SinkState, Sinks, TellsEnding, IsTextWritten, IsRunWritten, IsReportWritten, IsOwedWritten, WorkEnds, CallEnds}
use Rattle.command_documents.specs.Owed.{Owed, a_text, a_run}
use Rattle.command_documents.specs.declared.output.Run.{Run}
use Rattle.command_documents.specs.declared.output.Run.TheVariants as run
use Rattle.mate_files.specs.Counts.{Rose}
use Rattle.mate_files.specs.Files.{Names}
use Rattle.command_refusals.specs.Refusals.{status_of}
use Rattle.command_refusals.specs.declared.refusal.Refusal.{Refusal}
use Rattle.command_refusals.specs.declared.refusal.Refusal.TheVariants.{LogFull, NoMemory}
use Rattle.command_refusals.specs.declared.status.Status.{Status}
use Rattle.command_refusals.specs.declared.status.Status.TheVariants as status
use Rattle.command_steps.specs.OneAnswer.{AnswersAgree, steady}
use Rattle.command_steps.specs.Parts.{Folder}
use Rattle.command_steps.proofs.OneAnswer.{then_agrees}
use Rattle.node_runs.specs.Running.{IsReportOf}
use Rattle.report_writer.specs.Writing.{OfRun}
use Rattle.vm_shape.specs.declared.description.Description.{Description}
use Rattle.world_run_laws.specs.Promise.{IsReportOfWorld}

command_agrees : WorldsHaveOneReport → (names : Names) (t : Task) → AnswersAgree SameText (command (steady names) t) (command (steady names) t)
command_agrees law names (Node fold short vm script) = node_agrees names fold short vm script
command_agrees law names (Sim fold short vm script) = sim_agrees law names fold short vm script
command_agrees law names (Gen fold short number vm) = gen_agrees law names fold short number vm
command_agrees law names (Table vm) = table_agrees names vm
command_agrees law names (Compile fold vm h version name) = compile_agrees names fold vm h version name
command_agrees law names (Check vm name) = check_agrees names vm name
command_agrees law names (Expand name) = expand_agrees names name
command_agrees law names (Feed vm name) = feed_agrees names vm name
command_agrees law names (Audit fold vm script report) = audit_agrees names fold vm script report

pub owes_agree : WorldsHaveOneReport → (names : Names) (words : List (List ℕ)) → AnswersAgree SameText (Owes (steady names) words) (Owes (steady names) words)
owes_agree law names words =
    then_agrees ◌≡◌ SameText _ _ _ _ (task_agrees words)
    (λ a b e. subst (λ (t : Task). AnswersAgree SameText (command (steady names) a) (command (steady names) t)) e (command_agrees law names a))

-- ---- how a call ends

-- a refusal for want of memory comes with its status
out_of_memory : (s t : SinkState) (r : Refusal) (code : Status) → TellsEnding (Some r) s t code → r ≡ NoMemory → code ≡ status.NoMemory
out_of_memory s t r code (inl x) wants = subst (λ (y : Refusal). code ≡ status_of y) wants x.0
out_of_memory s t r code (inr x) wants = x.0

module _ (names : Names) (words : List (List ℕ)) (s t : Sinks) (code : Status) (quiet : Rose s.out.faults t.out.faults → ⊥)
    (ending : Option Refusal) (tells : TellsEnding ending s.err t.err code) where
  comes : (e : Option Refusal) → ending ≡ e → TellsEnding e s.err t.err code
  comes e is = subst (λ (e : Option Refusal). TellsEnding e s.err t.err code) is tells

  text_completes : (o : Owed) (bs : List ℕ) (all : Bool) → Owes (steady names) words (Ok o) → ((how : Bool) → all ≡ not how → IsOutputText how o bs) → IsTextWritten bs all s.out t.out ending → Completes names words s t code
  text_completes o bs all owes texts (ends.done is_all sent is) = whole o owes bs (texts false is_all) sent (comes None is)
  text_completes o bs all owes texts (ends.full is_cut sent is) = full o owes bs (texts true is_cut) sent (comes (Some LogFull) is)
  text_completes o bs all owes texts (ends.failed part rose is) = absurd (quiet rose)
  text_completes o bs all owes texts (ends.wanting part is) = wanting (out_of_memory s.err t.err NoMemory code (comes (Some NoMemory) is) refl)

  -- of a run, whose texts these are
  run_completes : (d : Description) (Is : OfRun) (o : Owed) → Owes (steady names) words (Ok o) → ((how : Bool) (bs : List ℕ) → IsRunText d Is (run_end how) bs → IsOutputText how o bs)
      → IsRunWritten d Is s.out t.out ending → Completes names words s t code
  run_completes d Is o owes texts (ends.whole r report sent is) = whole o owes _ (texts false _ (record { report = r; ended = report; text_is = refl })) sent (comes None is)
  run_completes d Is o owes texts (ends.stopped r report sent is) = full o owes _ (texts true _ (record { report = r; ended = report; text_is = refl })) sent (comes (Some LogFull) is)
  run_completes d Is o owes texts (ends.unwritten r part rose is) = absurd (quiet rose)
  run_completes d Is o owes texts (ends.cut r part is) = wanting (out_of_memory s.err t.err NoMemory code (comes (Some NoMemory) is) refl)

  report_completes : (r : Run) → Owes (steady names) words (Ok (a_run r)) → IsReportWritten r s.out t.out ending → Completes names words s t code
  report_completes (run.Script d script ps) owes written = run_completes d (IsReportOf d script ps) (a_run (run.Script d script ps)) owes (λ how bs is. is) written
  report_completes (run.World d w ps) owes written = run_completes d (IsReportOfWorld d w ps) (a_run (run.World d w ps)) owes (λ how bs is. is) written

  output_completes : (o : Owed) → Owes (steady names) words (Ok o) → IsOwedWritten o s.out t.out ending → Completes names words s t code
  output_completes (a_text all bs) owes written = text_completes (a_text all bs) bs all owes (λ how is. (is, refl)) written
  output_completes (a_run r) owes written = report_completes r owes written

  work_completes : (f : Folder) (before now : ℕ) → IsUnhindered f names words before now s t → WorkEnds f words before now s.out t.out ending → Completes names words s t code
  work_completes f before now free (ends.written o owes written) =
      output_completes o (owes_steady f names free.told words before now (Ok o) free.read (λ unread. absurd unread) owes) written
  work_completes f before now free (ends.refused r owes counted same is) =
      wanting (out_of_memory s.err t.err r code (comes (Some r) is) (free.owed r (owes_steady f names free.told words before now (Err r) free.read counted owes)))

pub completes : (f : Folder) (names : Names) (words : List (List ℕ)) (before now : ℕ) (s t : Sinks) (code : Status) → IsUnhindered f names words before now s t → CallEnds f words before now s t code → Completes names words s t code
completes f names words before now s t code free call = work_completes names words s t code free.put call.ending call.told f before now free call.work
