-- The world of a script whose programs mean their sources.
use Rattle.std.specs.Prelude.{List}
use Rattle.mate_journal.specs.declared.program.Program.{Program}
use Rattle.node_programs.specs.ScriptSteps.{program_at}
use Rattle.node_programs.specs.Sources.{meaning_by}
use Rattle.vm_shape.specs.declared.description.Description.{Description}
use Rattle.script_steps.specs.declared.world.World.{World as Script}
use Rattle.world_rules.specs.World.{World, world_of}

-- the world of a script with its programs, each of which means its source if it has one, and else its code
abbrev pub source_world : Description → Script → List Program → World
source_world d script ps = world_of d (meaning_by d ps) script (program_at ps)
