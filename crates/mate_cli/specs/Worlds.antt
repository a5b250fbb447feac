-- The commands `sim` and `gen`: the run of a world with its programs, or the summary of its report.
use Rattle.std.specs.Prelude.{ℕ, Bool, List, Result}
use Rattle.mate_cli.specs.Runs.{run_output}
use Rattle.command_documents.specs.Owed.{Owed}
use Rattle.command_documents.specs.declared.output.Run.TheVariants as run
use Rattle.command_refusals.specs.declared.refusal.Refusal.{Refusal}
use Rattle.command_steps.specs.Parts.{Folder, machine}
use Rattle.command_steps.specs.Steps.{◌▸◌}
use Rattle.vm_shape.specs.declared.description.Description.{Description}
use Rattle.command_programs.specs.Injected.{world_programs}
use Rattle.command_programs.specs.Made.{made}
use Rattle.command_programs.specs.WorldFiles.{world}

-- what is written of the run of the world of a script's file
abbrev pub run_of_world : Folder → (fold brief : Bool) → Description → (name : List ℕ) → Result Owed Refusal → Type 0
run_of_world f fold brief d name = world f d name ▸ λ w. world_programs f d fold w ▸ λ ps. run_output brief (run.World d w ps)

abbrev pub sim : Folder → (fold brief : Bool) → (vm name : List ℕ) → Result Owed Refusal → Type 0
sim f fold brief vm name = machine f vm ▸ λ d. run_of_world f fold brief d name

-- what is written of the run of a number's world
abbrev pub run_of_number : (fold brief : Bool) → Description → ℕ → Result Owed Refusal → Type 0
run_of_number fold brief d number = made d fold number ▸ λ m. run_output brief (run.World d m.world m.programs)

abbrev pub made_run : Folder → (fold brief : Bool) → (number : ℕ) → (vm : List ℕ) → Result Owed Refusal → Type 0
made_run f fold brief number vm = machine f vm ▸ λ d. run_of_number fold brief d number
