-- The script in the bytes of a file is read as its first command says.
use Rattle.std.proofs.Common.{◌≡◌, ℕ, Bool, List, Result, subst}
use Rattle.mate_journal.specs.declared.program.Program.{Program}
use Rattle.command_refusals.specs.declared.refusal.Refusal.{Refusal}
use Rattle.command_steps.specs.Parts.{Folder}
use Rattle.vm_shape.specs.declared.description.Description.{Description}
use Rattle.command_programs.specs.Named.{is_of_world, programs_by}

pub named-by : (of_world : Bool) (f : Folder) (d : Description) (fold : Bool) (bytes slice : List ℕ) (answer : Result (List Program) Refusal)
    → of_world ≡ is_of_world bytes → slice ≡ bytes → programs_by of_world f d fold slice answer → programs_by (is_of_world bytes) f d fold bytes answer
named-by of_world f d fold bytes slice answer is same does =
    subst (λ (b : Bool). programs_by b f d fold bytes answer) is (subst (λ (bs : List ℕ). programs_by of_world f d fold bs answer) same does)
