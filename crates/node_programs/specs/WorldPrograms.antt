-- The programs that a world is run with.
use Rattle.std.specs.Prelude.{◌≡◌, List, length, slice_get, IsSomeAnd, All, ⊤}
use Rattle.vm_shape.specs.declared.description.Description.{Description}
use Rattle.mate_journal.specs.declared.program.Program.{Program}
use Rattle.node_programs.specs.Right.{AreRightPrograms}
use Rattle.script_steps.specs.declared.world.World.{World}
use Rattle.script_steps.specs.declared.world.Planned.{Planned}
use Rattle.script_steps.specs.declared.world.What.{What}
use Rattle.script_steps.specs.declared.world.What.TheVariants as what
use Rattle.script_steps.specs.World.{IsRightWorld}

-- the program of an injection has the handler and the version of its line
abbrev pub IsProgramOfWhat : List Program → What → Type 0
IsProgramOfWhat ps (what.Inject program handler version) = IsSomeAnd (slice_get ps program) (λ p. (p.handler ≡ handler)
    × (p.version ≡ version))
IsProgramOfWhat ps _ = ⊤

-- a world can be run with the programs: both are right for the description, there is a program for each file, and each is of its line
pub record AreProgramsOfWorld (d : Description) (script : World) (ps : List Program) : Type 0 where
  pub world : IsRightWorld d script
  pub programs : AreRightPrograms d ps
  pub count : length ps ≡ length script.files
  pub each : All (λ (p : Planned). IsProgramOfWhat ps p.what) script.events
