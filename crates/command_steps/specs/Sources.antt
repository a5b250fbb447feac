-- The compiled script of a source in a file, with its code.
use Rattle.std.specs.Prelude.{ℕ, Bool, List, Result, Ok, Err}
use Rattle.ts_checked.specs.Statement.{Block}
use Rattle.ts_checked.specs.Checked.{ScriptTree}
use Rattle.ts_checker.specs.Accepted.{IsAccepted}
use Rattle.ts_compiler.specs.Compiled.{IsUncompiled}
use Rattle.command_steps.specs.SourceCode.{IsCompiledOf, compiled_tree}
use Rattle.command_steps.specs.declared.code.CompiledScript.{CompiledScript}
use Rattle.vm_shape.specs.Shapes.{shape_of}
use Rattle.vm_shape.specs.declared.description.Description.{Description}
use Rattle.command_refusals.specs.SourceCauses.{IsBadSource}
use Rattle.command_refusals.specs.declared.cause.Cause.TheVariants as cause
use Rattle.command_refusals.specs.declared.refusal.Refusal.{Refusal}
use Rattle.command_refusals.specs.declared.refusal.Refusal.TheVariants.{InFile}
use Rattle.command_steps.specs.Parts.{Folder, file}
use Rattle.command_steps.specs.Steps.{judged, ◌▸◌}

-- the tree that the bytes of the source `name` mean
abbrev pub accepted : Description → List ℕ → List ℕ → Result Block Refusal → Type 0
accepted d name bytes = judged (IsAccepted d bytes) (IsBadSource d bytes) (λ why. InFile name (cause.Source why))

-- what the program holds of a tree
abbrev pub tree_in : Result ScriptTree Refusal → Result Block Refusal
tree_in (Ok script) = Ok script.tree
tree_in (Err r) = Err r

-- the compiled script of its accepted tree, folded before or not
abbrev pub compiled : Description → Bool → List ℕ → Block → Result CompiledScript Refusal → Type 0
compiled d fold name tree = judged (IsCompiledOf (shape_of d) fold tree) (IsUncompiled (compiled_tree fold tree))
    (λ why. InFile name (cause.Code why))

-- that of its bytes
abbrev pub compiled_bytes : Description → Bool → List ℕ → List ℕ → Result CompiledScript Refusal → Type 0
compiled_bytes d fold name bytes = accepted d name bytes ▸ compiled d fold name

-- that of a source
abbrev pub source : Folder → Description → Bool → List ℕ → Result CompiledScript Refusal → Type 0
source f d fold name = file f name ▸ λ bytes. compiled_bytes d fold name bytes.items
