-- What the reader of a node script has read, and what a line adds to it.
use Rattle.std.specs.Prelude.{◌≡◌, ℕ, ◌+◌, ◌<◌, ◌≤◌, List, length, slice_index, All, AllPairs, Option, Some, None, option_map}
use Rattle.mate_num.specs.declared.bounds.TheConstants.{HANDLERS_MAX}
use Rattle.script_steps.specs.declared.node.Reader.{Reader}
use Rattle.script_steps.specs.declared.node.Said.{Said as Line}
use Rattle.script_steps.specs.declared.steps.Step.{Step}
use Rattle.script_steps.specs.declared.steps.Step.TheVariants as step
use Rattle.vm_shape.specs.declared.description.Description.{Description}
use Rattle.script_steps.specs.Steps.{IsRightStep, Rises}
use Rattle.script_steps.specs.NodeScript.{Said, Progress}

abbrev pub progress_of : Reader → Progress
progress_of r = record { script = r.steps; newest = r.newest }

abbrev pub said_of : Line → Said
said_of line = record { step = line.step; file = option_map (λ file. file.now) line.file }

abbrev pub files_after : ℕ → Option (List ℕ) → ℕ
files_after files None = files
files_after files (Some file) = files + 1

-- an install is newer than the newest version of its handler
abbrev pub IsNewer : List ℕ → Step → Type 0
IsNewer newest (step.Install handler version program) = slice_index newest handler.0 < version
IsNewer newest _ = Unit {0}

-- what a line says is right after this number of files and those versions
pub record IsRightSaid (d : Description) (newest : List ℕ) (files : ℕ) (said : Said) : Type 0 where
  pub right : IsRightStep d (files_after files said.file) said.step
  pub newer : IsNewer newest said.step

-- an install's version is at most the newest one of its handler
abbrev pub IsNoted : List ℕ → Step → Type 0
IsNoted newest (step.Install handler version program) = version ≤ slice_index newest handler.0
IsNoted newest _ = Unit {0}

-- what is right of every progress
pub record KeepsProgress (d : Description) (p : Progress) : Type 0 where
  pub each : All (IsRightStep d (length p.script.files)) p.script.steps
  pub rising : AllPairs Rises p.script.steps
  pub places : length p.newest ≡ HANDLERS_MAX
  pub noted : All (IsNoted p.newest) p.script.steps
