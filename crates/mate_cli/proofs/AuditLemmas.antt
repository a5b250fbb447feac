-- What `audit` refuses of a report is about no file that could not be read.
use Rattle.std.proofs.Common.{◌≡◌, ℕ, List, Result, Ok, Err, subst, inl, inr}
use Rattle.std.specs.Prelude.{IsErrAnd}
use Rattle.mate_cli.specs.Audit.{report_in, serial}
use Rattle.command_documents.specs.declared.output.Output.{Output}
use Rattle.mate_journal.specs.declared.program.Program.{Program}
use Rattle.mate_journal.specs.declared.report.Report.{Report}
use Rattle.command_refusals.specs.declared.refusal.Refusal.{Refusal}
use Rattle.command_steps.specs.Parts.{IsUnreadAnswer}
use Rattle.vm_shape.specs.declared.description.Description.{Description}

pub quiet-report : (d : Description) (bytes : List ℕ) (answer : Result Report Refusal) → report_in d bytes answer → IsUnreadAnswer answer → ⊥
quiet-report d bytes (Ok r) is unread = unread
quiet-report d bytes (Err why) (inl it) unread = subst (λ (y : Refusal). IsUnreadAnswer {A = Report} (Err y)) it.2 unread
quiet-report d bytes (Err why) (inr wants) unread = subst (λ (y : Refusal). IsUnreadAnswer {A = Report} (Err y)) wants unread

quiet-refusal : (d : Description) (ps : List Program) (r : Report) (why : Refusal) → serial d ps r (Err why) → IsUnreadAnswer {A = Output} (Err why) → ⊥
quiet-refusal d ps r why (inl it) unread = subst (λ (y : Refusal). IsUnreadAnswer {A = Output} (Err y)) it.2 unread
quiet-refusal d ps r why (inr wants) unread = subst (λ (y : Refusal). IsUnreadAnswer {A = Output} (Err y)) wants unread

pub quiet-serial : (d : Description) (ps : List Program) (r : Report) (why : Refusal) (answer : Result Output Refusal)
    → serial d ps r (Err why) → IsErrAnd answer (λ y. y ≡ why) → IsUnreadAnswer answer → ⊥
quiet-serial d ps r why (Ok o) refuted is unread = unread
quiet-serial d ps r why (Err y) refuted is unread =
    quiet-refusal d ps r why refuted (subst (λ (z : Refusal). IsUnreadAnswer {A = Output} (Err z)) is unread)
