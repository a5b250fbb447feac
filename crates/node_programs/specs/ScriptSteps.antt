-- The steps of a node that a script gives with its programs.
use Rattle.std.specs.Prelude.{◌≡◌, ℕ, List, Option, Some, None, length, map, slice_get, All, IsSome, IsNone, IsSomeAnd, ⊤}
use Rattle.std.specs.Option.{option_map_or}
use Rattle.vm_shape.specs.declared.description.Description.{Description}
use Rattle.script_steps.specs.declared.steps.Step.{Step}
use Rattle.script_steps.specs.declared.steps.Step.TheVariants as step
use Rattle.script_steps.specs.Steps.{NodeScript, IsRightSteps}
use Rattle.mate_journal.specs.Machine.{HeldProgram}
use Rattle.mate_journal.specs.Journal.{no_program}
use Rattle.mate_journal.specs.NodeScript as node
use Rattle.mate_journal.specs.declared.program.Program.{Program}
use Rattle.node_programs.specs.Right.{AreRightPrograms}
use Rattle.node_programs.specs.Sources.{held_as}

-- the program of a file, as a node would hold it
abbrev pub held_or_none : Option Program → HeldProgram
held_or_none program = option_map_or held_as program no_program

abbrev pub program_at : List Program → ℕ → HeldProgram
program_at ps k = held_or_none (slice_get ps k)

-- both an install and a load install their program
abbrev pub step_of : List Program → Step → node.Step
step_of ps (step.Install h version program) = node.Install (program_at ps program)
step_of ps (step.Load program) = node.Install (program_at ps program)
step_of ps (step.Post h payload) = node.Post h payload
step_of ps (step.Step ctx n) = node.StepIn ctx n
step_of ps step.Run = node.Run
step_of ps (step.Answer ctx value) = node.Answer ctx value
step_of ps step.Show = node.Show
step_of ps step.Reset = node.ResetNode

abbrev pub steps_of : NodeScript → List Program → List node.Step
steps_of script ps = map (step_of ps) script.steps

-- the program of an install has a source, and the handler and version of its line; that of a load has no source
abbrev pub IsProgramOf : List Program → Step → Type 0
IsProgramOf ps (step.Install h version program) = IsSomeAnd (slice_get ps program) (λ p. IsSome p.source × (p.handler ≡ h)
    × (p.version ≡ version))
IsProgramOf ps (step.Load program) = IsSomeAnd (slice_get ps program) (λ p. IsNone p.source)
IsProgramOf ps _ = ⊤

-- a script can be run with the programs: both are right for the description, there is a program for each file, and each is
-- of its line
pub record AreProgramsOf (d : Description) (script : NodeScript) (ps : List Program) : Type 0 where
  pub steps : IsRightSteps d script
  pub programs : AreRightPrograms d ps
  pub count : length ps ≡ length script.files
  pub each : All (IsProgramOf ps) script.steps
