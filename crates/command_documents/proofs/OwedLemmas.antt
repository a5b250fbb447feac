-- Refusals of outputs are refusals of what is owed.
use Rattle.std.proofs.Common.{◌≡◌, Result, Ok, Err}
use Rattle.std.specs.Prelude.{IsErrAnd}
use Rattle.command_documents.specs.Outputs.{owed_in}
use Rattle.command_documents.specs.Owed.{Owed}
use Rattle.command_documents.specs.declared.output.Output.{Output}
use Rattle.command_refusals.specs.declared.refusal.Refusal.{Refusal}
use Rattle.command_steps.specs.Parts.{IsUnreadAnswer}
use Rattle.command_steps.specs.Steps.{Then}
use Rattle.command_steps.proofs.Laws.{stops_by, unread-as}

owed-refused : (answer : Result Output Refusal) (r : Refusal) → IsErrAnd answer (λ y. y ≡ r) → IsErrAnd (owed_in answer) (λ y. y ≡ r)
owed-refused (Ok o) r is = is
owed-refused (Err y) r is = is

-- a step that gives a refusal ends the command with it
pub owed-stops : {A : Type 0} {step : Result A Refusal → Type 0} {next : A → Result Owed Refusal → Type 0} (r : Refusal) (answer : Result Output Refusal)
    → step (Err r) → IsErrAnd answer (λ y. y ≡ r) → Then step next (owed_in answer)
owed-stops r answer refused is = stops_by r (owed_in answer) refused (owed-refused answer r is)

pub owed-unread : (answer : Result Output Refusal) → IsUnreadAnswer answer → IsUnreadAnswer (owed_in answer)
owed-unread (Ok o) unread = unread
owed-unread (Err r) unread = unread-as Output Owed r unread
