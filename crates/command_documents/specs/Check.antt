-- The command `check`: the text of the capsule that a file has in hexadecimal digits.
use Rattle.std.specs.Prelude.{ℕ, List, Result}
use Rattle.opcode_gen.specs.CapsuleText.{capsule_text}
use Rattle.command_steps.specs.CapsuleFiles.{capsule}
use Rattle.command_documents.specs.Owed.{Owed, writes}
use Rattle.command_steps.specs.Parts.{Folder, machine}
use Rattle.command_steps.specs.Steps.{◌▸◌}
use Rattle.command_refusals.specs.declared.refusal.Refusal.{Refusal}

abbrev pub check : Folder → (vm name : List ℕ) → Result Owed Refusal → Type 0
check f vm name = machine f vm ▸ λ d. capsule f d name ▸ λ c. writes (capsule_text d c.0 c.1)
