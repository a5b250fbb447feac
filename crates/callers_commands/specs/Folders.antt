-- Steady files whose contents are given, and refusals that have to come.
use Rattle.std.specs.Prelude.{◌≡◌, ℕ, List, Option, Some, Result, Ok, Err, IsTrue, ◌⊎◌}
use Rattle.mate_files.specs.Files.{Names}
use Rattle.command_refusals.specs.declared.refusal.Refusal.{Refusal}
use Rattle.command_refusals.specs.declared.refusal.Refusal.TheVariants.{NoMemory}
use Rattle.command_steps.specs.Parts.{Folder}

-- steady files hold these bytes under the name, or have no such name
pub record HoldsFile (f : Folder) (name : List ℕ) (held : Option (List ℕ)) : Type 0 where
  pub steady_is : IsTrue f.steady
  pub names : Names
  pub told_is : f.told ≡ Some names
  pub held_is : names name ≡ held

-- this refusal comes, unless memory runs out
abbrev pub RefusesAs : {A : Type 0} → Refusal → Result A Refusal → Type 0
RefusesAs why (Ok a) = ⊥
RefusesAs why (Err r) = (r ≡ why) ⊎ (r ≡ NoMemory)
