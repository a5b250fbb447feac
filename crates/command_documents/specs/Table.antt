-- The command `table`: the opcode table of a machine.
use Rattle.std.specs.Prelude.{ℕ, List, Result}
use Rattle.opcode_gen.specs.TableText.{table_text}
use Rattle.command_documents.specs.Owed.{Owed, writes}
use Rattle.command_steps.specs.Parts.{Folder, machine}
use Rattle.command_steps.specs.Steps.{◌▸◌}
use Rattle.command_refusals.specs.declared.refusal.Refusal.{Refusal}

abbrev pub opcode_table : Folder → List ℕ → Result Owed Refusal → Type 0
opcode_table f vm = machine f vm ▸ λ d. writes (table_text d)
