-- The world of the script in a file.
use Rattle.std.specs.Prelude.{◌≡◌, ℕ, List, Result, Ok, Err}
use Rattle.script_steps.specs.declared.fault.Cause.{Cause}
use Rattle.script_steps.specs.declared.fault.ScriptFault.TheVariants.{BadLine}
use Rattle.vm_shape.specs.declared.description.Description.{Description}
use Rattle.script_reader.specs.WorldScript.{world_script_in}
use Rattle.script_steps.specs.declared.world.World.{World}
use Rattle.command_refusals.specs.declared.refusal.Refusal.{Refusal}
use Rattle.command_refusals.specs.declared.refusal.Refusal.TheVariants.{BadScript}
use Rattle.command_steps.specs.Parts.{Folder, file}
use Rattle.command_steps.specs.Steps.{judged, ◌▸◌}

-- the bytes are refused at this line, for this cause
abbrev pub IsBadWorld : Description → List ℕ → ℕ × Cause → Type 0
IsBadWorld d bytes why = world_script_in d bytes ≡ Err (BadLine why.0 why.1)

-- the world of the script in the bytes
abbrev pub world_text : Description → List ℕ → Result World Refusal → Type 0
world_text d bytes = judged (λ w. world_script_in d bytes ≡ Ok w) (IsBadWorld d bytes) (λ why. BadScript why.0 why.1)

-- that of a file
abbrev pub world : Folder → Description → List ℕ → Result World Refusal → Type 0
world f d name = file f name ▸ λ bytes. world_text d bytes.items
