-- The steps of a node script in a file.
use Rattle.std.specs.Prelude.{◌≡◌, ℕ, List, Result, Ok, Err}
use Rattle.script_steps.specs.NodeScript.{node_script_in}
use Rattle.script_steps.specs.Steps.{NodeScript}
use Rattle.script_steps.specs.declared.fault.Cause.{Cause}
use Rattle.script_steps.specs.declared.fault.ScriptFault.TheVariants.{BadLine}
use Rattle.vm_shape.specs.declared.description.Description.{Description}
use Rattle.command_refusals.specs.declared.refusal.Refusal.{Refusal}
use Rattle.command_refusals.specs.declared.refusal.Refusal.TheVariants.{BadScript}
use Rattle.command_steps.specs.Parts.{Folder, file}
use Rattle.command_steps.specs.Steps.{judged, ◌▸◌}

-- the bytes are refused at this line, for this cause
abbrev pub IsBadScript : Description → List ℕ → ℕ × Cause → Type 0
IsBadScript d bytes why = node_script_in d bytes ≡ Err (BadLine why.0 why.1)

-- the script in the bytes
abbrev pub script_text : Description → List ℕ → Result NodeScript Refusal → Type 0
script_text d bytes = judged (λ s. node_script_in d bytes ≡ Ok s) (IsBadScript d bytes) (λ why. BadScript why.0 why.1)

-- the script of a file
abbrev pub script : Folder → Description → List ℕ → Result NodeScript Refusal → Type 0
script f d name = file f name ▸ λ bytes. script_text d bytes.items
