-- What `feed` refuses of a stream is about no file that could not be read.
use Rattle.std.proofs.Common.{inl, inr, ℕ, List, Result, Ok, Err, subst}
use Rattle.command_documents.specs.Feed.{answers, whole_stream}
use Rattle.command_documents.specs.Owed.{Owed, writes}
use Rattle.command_documents.specs.Outputs.{owed_in}
use Rattle.command_documents.specs.declared.output.Output.{Output}
use Rattle.command_documents.proofs.OwedLemmas.{owed-unread}
use Rattle.command_refusals.specs.declared.refusal.Refusal.{Refusal}
use Rattle.command_steps.specs.Parts.{IsUnreadAnswer}
use Rattle.command_steps.specs.Steps.{goes_on, stops}
use Rattle.vm_shape.specs.declared.description.Description.{Description}

quiet-writes : (text : List ℕ) (answer : Result Owed Refusal) → writes text answer → IsUnreadAnswer answer → ⊥
quiet-writes text (Ok o) is unread = unread
quiet-writes text (Err r) is unread = subst (λ (y : Refusal). IsUnreadAnswer {A = Owed} (Err y)) is unread

quiet-open : (bytes : List ℕ) (r : Refusal) → whole_stream bytes (Err r) → IsUnreadAnswer {A = Owed} (Err r) → ⊥
quiet-open bytes r (inl why) unread = subst (λ (y : Refusal). IsUnreadAnswer {A = Owed} (Err y)) why.2 unread
quiet-open bytes r (inr wants) unread = subst (λ (y : Refusal). IsUnreadAnswer {A = Owed} (Err y)) wants unread

quiet-owed : (d : Description) (bytes : List ℕ) (answer : Result Owed Refusal) → answers d bytes answer → IsUnreadAnswer answer → ⊥
quiet-owed d bytes answer (goes_on whole is rest) unread = quiet-writes _ answer rest unread
quiet-owed d bytes answer (stops r is e) unread = quiet-open bytes r is (subst (λ (x : Result Owed Refusal). IsUnreadAnswer x) e unread)

pub quiet-answers : (d : Description) (bytes : List ℕ) (answer : Result Output Refusal) → answers d bytes (owed_in answer) → IsUnreadAnswer answer → ⊥
quiet-answers d bytes answer is unread = quiet-owed d bytes (owed_in answer) is (owed-unread answer unread)
