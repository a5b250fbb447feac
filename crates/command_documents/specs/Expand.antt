-- The command `expand`: the plain script that the source with procedures in a file expands to.
use Rattle.std.specs.Prelude.{ℕ, List, Result}
use Rattle.command_documents.specs.Documents.{script_line}
use Rattle.command_documents.specs.Owed.{Owed, writes}
use Rattle.command_steps.specs.Expansions.{expanded_source}
use Rattle.command_steps.specs.Parts.{Folder}
use Rattle.command_steps.specs.Steps.{◌▸◌}
use Rattle.command_refusals.specs.declared.refusal.Refusal.{Refusal}

abbrev pub expand : Folder → List ℕ → Result Owed Refusal → Type 0
expand f name = expanded_source f name ▸ λ s. writes (script_line s)
