-- The steps of a node script, and which are right for a machine.
use Rattle.std.specs.Prelude.{◌≡◌, ℕ, ◌<◌, ◌≤◌, ℤ, List, length, All, AllPairs}
use Rattle.mate_num.specs.declared.bounds.TheConstants.{PAYLOAD_MAX}
use Rattle.vm_shape.specs.declared.description.Description.{Description}
use Rattle.vm_shape.specs.Whole.{context_count}
use Rattle.script_steps.specs.declared.steps.Step.{Step}
use Rattle.script_steps.specs.declared.steps.Step.TheVariants as step

-- the steps in order, and the names of the files that they name, in order
pub record NodeScript : Type 0 where
  pub steps : List Step
  pub files : List (List ℕ)

-- a handler of the machine, a version, and one of this number of files
pub record IsRightInstall (d : Description) (files : ℕ) (handler version program : ℕ) : Type 0 where
  pub handler_high : handler < length d.handlers.items
  pub version_low : 1 ≤ version
  pub version_high : version ≤ 4294967295
  pub program_high : program < files

pub record IsRightPost (d : Description) (handler : ℕ) (values : List ℤ) : Type 0 where
  pub handler_high : handler < length d.handlers.items
  pub few : length values ≤ PAYLOAD_MAX

pub record IsRightTurn (d : Description) (context n : ℕ) : Type 0 where
  pub context_high : context < context_count d
  pub low : 1 ≤ n
  pub high : n ≤ 1000000

-- the step's numbers are the machine's, and its file is one of this number of files
abbrev pub IsRightStep : Description → ℕ → Step → Type 0
IsRightStep d files (step.Install handler version program) = IsRightInstall d files handler.0 version program
IsRightStep d files (step.Load program) = program < files
IsRightStep d files (step.Post handler payload) = IsRightPost d handler.0 payload.items
IsRightStep d files (step.Step ctx n) = IsRightTurn d ctx.0 n
IsRightStep d files (step.Answer ctx value) = ctx.0 < context_count d
IsRightStep d files _ = Unit {0}

-- two installs of one handler: the later one has the greater version
abbrev pub Rises : Step → Step → Type 0
Rises (step.Install handler version program) (step.Install other later file) = handler ≡ other → version < later
Rises _ _ = Unit {0}

-- each step is right, and the versions of a handler rise from install to install
pub record IsRightSteps (d : Description) (script : NodeScript) : Type 0 where
  pub each : All (IsRightStep d (length script.files)) script.steps
  pub rising : AllPairs Rises script.steps
