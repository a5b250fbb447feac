-- The programs of the files that a node script names, in the order of its steps.
use Rattle.std.specs.Prelude.{◌≡◌, ℕ, Bool, true, false, List, [], ◌∷◌, ◌++◌, slice_index_or, Option, Some, None, option_to_list, Result}
use Rattle.mate_num.specs.declared.id.HandlerId.{HandlerId}
use Rattle.capsule_codec.specs.Image.{CapsuleParts, capsule_image}
use Rattle.mate_journal.specs.declared.program.Program.{Program}
use Rattle.script_steps.specs.Steps.{NodeScript}
use Rattle.script_steps.specs.declared.steps.Step.{Step}
use Rattle.script_steps.specs.declared.steps.Step.TheVariants as step
use Rattle.command_steps.specs.declared.code.CompiledScript.{CompiledScript}
use Rattle.vm_shape.specs.declared.description.Description.{Description}
use Rattle.command_refusals.specs.declared.refusal.Refusal.{Refusal}
use Rattle.command_steps.specs.CapsuleFiles.{capsule}
use Rattle.command_steps.specs.Parts.{Folder}
use Rattle.command_steps.specs.Sources.{source}
use Rattle.command_steps.specs.Steps.{obtained, ◌▸◌}

-- the program of a source: the capsule's image with the machine's number, and the script that was compiled
pub record IsInstalled (d : Description) (h : HandlerId) (version : ℕ) (c : CompiledScript) (p : Program) : Type 0 where
  pub handler : p.handler ≡ h
  pub version_is : p.version ≡ version
  pub source : p.source ≡ Some c.script
  pub image : p.image.items ≡ capsule_image (record { vm_id = d.vm_id; handler = h.0; version = version; code = c.code.items })

-- the program of a capsule in a file
pub record IsLoaded (c : CapsuleParts) (p : Program) : Type 0 where
  pub handler : p.handler.0 ≡ c.handler
  pub version_is : p.version ≡ c.version
  pub source : p.source ≡ None
  pub image : p.image.items ≡ capsule_image c

abbrev pub installed : Folder → Description → Bool → HandlerId → ℕ → List ℕ → Result Program Refusal → Type 0
installed f d fold h version name = source f d fold name ▸ λ c. obtained (IsInstalled d h version c)

abbrev pub loaded : Folder → Description → List ℕ → Result Program Refusal → Type 0
loaded f d name = capsule f d name ▸ λ c. obtained (IsLoaded c.0)

-- the name of the file at a place
abbrev pub name_at : List (List ℕ) → ℕ → List ℕ
name_at names k = slice_index_or names k []

-- a step names a file
abbrev pub names_file : Step → Bool
names_file (step.Install h version k) = true
names_file (step.Load k) = true
names_file (step.Post h payload) = false
names_file (step.Step ctx n) = false
names_file step.Run = false
names_file (step.Answer ctx value) = false
names_file step.Show = false
names_file step.Reset = false

-- the program that a step of the script names, if it names one
abbrev pub step_program : Folder → Description → Bool → List (List ℕ) → Step → Result (Option Program) Refusal → Type 0
step_program f d fold names (step.Install h version k) = installed f d fold h version (name_at names k) ▸ λ p. obtained (λ o. o ≡ Some p)
step_program f d fold names (step.Load k) = loaded f d (name_at names k) ▸ λ p. obtained (λ o. o ≡ Some p)
step_program f d fold names _ = obtained (λ o. o ≡ None)

-- after these programs, those of the steps that are left
abbrev pub programs_after : Folder → Description → Bool → List (List ℕ) → List Program → List Step → Result (List Program) Refusal → Type 0
programs_after f d fold names ps [] = obtained (λ all. all ≡ ps)
programs_after f d fold names ps (x ∷ xs) = step_program f d fold names x ▸ λ o. programs_after f d fold names (ps ++ option_to_list o) xs

-- the programs of a script's files
abbrev pub script_programs : Folder → Description → Bool → NodeScript → Result (List Program) Refusal → Type 0
script_programs f d fold script = programs_after f d fold script.files [] script.steps

-- what is left to be owed at a step, after these programs, is all that is owed
pub record Owing (f : Folder) (d : Description) (fold : Bool) (script : NodeScript) (ps : List Program) (left : List Step) : Type 0 where
  pub owed : (answer : Result (List Program) Refusal) → programs_after f d fold script.files ps left answer
      → script_programs f d fold script answer
