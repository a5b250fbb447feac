-- The programs of what the script in a file names: of a world, or of a node.
use Rattle.std.specs.Prelude.{ℕ, Bool, true, false, List, [], ◌∷◌, codes, Result, if◌then◌else◌}
use Rattle.std.specs.Str.{bytes_eq}
use Rattle.mate_journal.specs.declared.program.Program.{Program}
use Rattle.command_refusals.specs.declared.refusal.Refusal.{Refusal}
use Rattle.command_steps.specs.Parts.{Folder, file}
use Rattle.command_steps.specs.Steps.{◌▸◌}
use Rattle.command_programs.specs.Programs.{script_programs}
use Rattle.command_programs.specs.Scripts.{script_text}
use Rattle.script_steps.specs.Lines.{lines, split_words, is_skipped}
use Rattle.vm_shape.specs.declared.description.Description.{Description}
use Rattle.command_programs.specs.Injected.{world_programs}
use Rattle.command_programs.specs.WorldFiles.{world_text}

-- the first word is `nodes`
abbrev pub begins_world : List (List ℕ) → Bool
begins_world [] = false
begins_world (word ∷ words) = bytes_eq word (codes "nodes")

-- so does the first line that says something
abbrev pub are_of_world : List (List ℕ) → Bool
are_of_world [] = false
are_of_world (line ∷ more) = if is_skipped (split_words line) then are_of_world more else begins_world (split_words line)

-- the script is a world's
abbrev pub is_of_world : List ℕ → Bool
is_of_world bytes = are_of_world (lines bytes)

-- the programs of the script in the bytes, a world's or a node's
abbrev pub programs_by : Bool → Folder → Description → Bool → List ℕ → Result (List Program) Refusal → Type 0
programs_by true f d fold bytes = world_text d bytes ▸ λ w. world_programs f d fold w
programs_by false f d fold bytes = script_text d bytes ▸ λ s. script_programs f d fold s

-- those of the script in a file
abbrev pub programs_named : Folder → Description → (fold : Bool) → (name : List ℕ) → Result (List Program) Refusal → Type 0
programs_named f d fold name = file f name ▸ λ bytes. programs_by (is_of_world bytes.items) f d fold bytes.items
