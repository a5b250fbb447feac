-- What the answers of calls that read files tell.
use Rattle.std.proofs.Common.{◌≡◌, ℕ, List, Result, Ok, Err, subst, inl, inr}
use Rattle.command_refusals.specs.declared.refusal.Refusal.{Refusal}
use Rattle.command_steps.specs.Parts.{IsUnreadAnswer}
use Rattle.vm_shape.specs.declared.description.Description.{Description}
use Rattle.command_programs.specs.WorldFiles.{world_text}
use Rattle.script_steps.specs.declared.world.World.{World}

-- a world is no answer that a file can't be read
pub world-read : (d : Description) (bytes : List ℕ) (answer : Result World Refusal) → world_text d bytes answer → IsUnreadAnswer answer → ⊥
world-read d bytes (Ok s) text unread = unread
world-read d bytes (Err r) (inl why) unread = let P : Refusal → Type 0 = λ y. IsUnreadAnswer {A = World} (Err y) in subst P why.2 unread
world-read d bytes (Err r) (inr wants) unread = let P : Refusal → Type 0 = λ y. IsUnreadAnswer {A = World} (Err y) in subst P wants unread
