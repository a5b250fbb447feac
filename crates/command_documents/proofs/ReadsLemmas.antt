-- What the answers of calls that read files say.
use Rattle.std.proofs.Common.{◌≡◌, Result, Ok, Err, subst}
use Rattle.std.specs.Prelude.{IfErr}
use Rattle.command_refusals.specs.declared.refusal.Refusal.{Refusal}
use Rattle.command_refusals.specs.declared.refusal.Refusal.TheVariants.{NoMemory}
use Rattle.command_steps.specs.Parts.{IsUnreadAnswer}

-- want of memory is none of a file's bytes
pub quiet-memory : {A : Type 0} (result : Result A Refusal) → IfErr result (λ r. r ≡ NoMemory) → IsUnreadAnswer result → ⊥
quiet-memory (Ok a) is unread = unread
quiet-memory {A = A} (Err r) is unread = subst (λ (x : Refusal). IsUnreadAnswer {A = A} (Err x)) is unread
