-- The plain script that a source with procedures in a file expands to.
use Rattle.std.specs.Prelude.{◌≡◌, ℕ, List, Result, Ok, Err, ◌⊎◌}
use Rattle.ts_proc_expansion.specs.Answer.{IsWithin, IsWithinOr}
use Rattle.ts_proc_expansion.specs.Expansion.{expansion}
use Rattle.ts_proc_names.specs.Named.{written_of}
use Rattle.ts_proc_names.specs.declared.fault.ProcFault.{ProcFault}
use Rattle.ts_proc_names.specs.declared.named.PScript.{PScript}
use Rattle.ts_proc_texts.specs.Reading.{ReadsProcedures}
use Rattle.ts_trees.specs.Tree.{ProcedureSource, Source}
use Rattle.command_refusals.specs.ExpansionCauses.{expansion_fault}
use Rattle.command_refusals.specs.declared.cause.Cause.TheVariants as cause
use Rattle.command_refusals.specs.declared.expansion_cause.ExpansionCause.{ExpansionCause}
use Rattle.command_refusals.specs.declared.refusal.Refusal.{Refusal}
use Rattle.command_refusals.specs.declared.refusal.Refusal.TheVariants.{InFile, NoMemory}
use Rattle.command_steps.specs.Parts.{Folder, file}
use Rattle.command_steps.specs.Steps.{judged, ◌▸◌}

-- the refusal of the source `name` for this fault, unless memory runs out
abbrev pub RefusesExpansion : List ℕ → ProcFault → Refusal → Type 0
RefusesExpansion name fault r = ((why : ExpansionCause) × (fault ≡ expansion_fault why) × (r ≡ InFile name (cause.Expansion why)))
    ⊎ (r ≡ NoMemory)

-- the script with procedures that the bytes of the source `name` spell
abbrev pub script_with_procedures : List ℕ → List ℕ → Result PScript Refusal → Type 0
script_with_procedures name bytes =
    judged (λ s. ReadsProcedures bytes (Ok s)) (λ why. ReadsProcedures bytes (Err (expansion_fault why)))
    (λ why. InFile name (cause.Expansion why))

-- the plain script that it expands to, within the limits
abbrev pub expanded_script : List ℕ → ProcedureSource → Result Source Refusal → Type 0
expanded_script name source =
    judged (λ s. (s ≡ expansion source) × IsWithin source) (λ why. IsWithinOr source (Err (expansion_fault why)))
    (λ why. InFile name (cause.Expansion why))

-- that of its bytes
abbrev pub expanded_bytes : List ℕ → List ℕ → Result Source Refusal → Type 0
expanded_bytes name bytes = script_with_procedures name bytes ▸ λ s. expanded_script name (written_of s)

-- that of a source
abbrev pub expanded_source : Folder → List ℕ → Result Source Refusal → Type 0
expanded_source f name = file f name ▸ λ bytes. expanded_bytes name bytes.items

-- the plain script that is answered by the script with procedures that expands to it
abbrev pub expansion_in : Result PScript Refusal → Result Source Refusal
expansion_in (Ok s) = Ok (expansion (written_of s))
expansion_in (Err r) = Err r
