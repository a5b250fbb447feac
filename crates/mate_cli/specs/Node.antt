-- The command `node`: the run of a node script with the programs of its files, or the summary of its report.
use Rattle.std.specs.Prelude.{ℕ, Bool, List, Result}
use Rattle.mate_cli.specs.Runs.{run_output}
use Rattle.command_programs.specs.Programs.{script_programs}
use Rattle.command_programs.specs.Scripts.{script}
use Rattle.vm_shape.specs.declared.description.Description.{Description}
use Rattle.command_steps.specs.Parts.{Folder, machine}
use Rattle.command_steps.specs.Steps.{◌▸◌}
use Rattle.command_documents.specs.Owed.{Owed}
use Rattle.command_documents.specs.declared.output.Run.TheVariants as run
use Rattle.command_refusals.specs.declared.refusal.Refusal.{Refusal}

-- what is written of the run of a script's file on a machine
abbrev pub run_of_script : Folder → (fold brief : Bool) → Description → (name : List ℕ) → Result Owed Refusal → Type 0
run_of_script f fold brief d name = script f d name ▸ λ s. script_programs f d fold s ▸ λ ps. run_output brief (run.Script d s ps)

abbrev pub node : Folder → (fold brief : Bool) → (vm name : List ℕ) → Result Owed Refusal → Type 0
node f fold brief vm name = machine f vm ▸ λ d. run_of_script f fold brief d name
