-- The programs of the files that a world injects: those of a node script that installs just them, in the order of the world's lines.
use Rattle.std.specs.Prelude.{ℕ, Bool, List, Option, Some, None, Result, flat_map}
use Rattle.std.specs.Option.{option_to_list}
use Rattle.mate_journal.specs.declared.program.Program.{Program}
use Rattle.command_programs.specs.Numbers.{NamesInOrder}
use Rattle.command_programs.specs.Programs.{script_programs}
use Rattle.script_steps.specs.Steps.{NodeScript}
use Rattle.script_steps.specs.declared.steps.Step.{Step}
use Rattle.script_steps.specs.declared.steps.Step.TheVariants as step
use Rattle.vm_shape.specs.declared.description.Description.{Description}
use Rattle.script_steps.specs.declared.world.Planned.{Planned}
use Rattle.script_steps.specs.declared.world.What.{What}
use Rattle.script_steps.specs.declared.world.What.TheVariants as what
use Rattle.script_steps.specs.declared.world.World.{World}
use Rattle.command_refusals.specs.declared.refusal.Refusal.{Refusal}
use Rattle.command_steps.specs.Parts.{Folder}

-- the install that a line is, if it injects
abbrev pub install_of : What → Option Step
install_of (what.Inject program handler version) = Some (step.Install handler version program)
install_of _ = None

abbrev pub installs_in : List Planned → List Step
installs_in events = flat_map (λ (p : Planned). option_to_list (install_of p.what)) events

-- the node script that installs what a world injects
abbrev pub installs : World → NodeScript
installs w = record { steps = installs_in w.events; files = w.files }

-- a world's injections name its files in order, each once
abbrev pub InjectsInOrder : World → Type 0
InjectsInOrder w = NamesInOrder (installs w)

-- the programs of a world's files
abbrev pub world_programs : Folder → Description → Bool → World → Result (List Program) Refusal → Type 0
world_programs f d fold w = script_programs f d fold (installs w)
