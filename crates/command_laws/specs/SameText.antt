-- When one text is owed, or one run.
use Rattle.std.specs.Prelude.{◌≡◌, List}
use Rattle.command_documents.specs.Owed.{Owed, a_text, a_run}
use Rattle.command_documents.specs.declared.output.Run.{Run}
use Rattle.command_documents.specs.declared.output.Run.TheVariants as run
use Rattle.mate_journal.specs.declared.program.Program.{Program}
use Rattle.node_programs.specs.ScriptSteps.{steps_of}
use Rattle.node_programs.specs.Sources.{meaning_by}
use Rattle.script_steps.specs.Steps.{NodeScript}
use Rattle.vm_shape.specs.declared.description.Description.{Description}
use Rattle.script_steps.specs.declared.world.World.{World}
use Rattle.world_run_laws.specs.SourceWorld.{source_world}

-- the same steps, on the same machine, with programs that mean the same
pub record IsSameNodeRun (d d' : Description) (script script' : NodeScript) (ps ps' : List Program) : Type 0 where
  pub machine : d ≡ d'
  pub steps : steps_of script ps ≡ steps_of script' ps'
  pub meaning : meaning_by d ps ≡ meaning_by d' ps'

-- the same world, on the same machine, with programs that mean the same
pub record IsSameWorld (d d' : Description) (w w' : World) (ps ps' : List Program) : Type 0 where
  pub machine : d ≡ d'
  pub world : w ≡ w'
  pub meaning : source_world d w ps ≡ source_world d' w' ps'

-- the same runs
abbrev pub IsOneRun : Run → Run → Type 0
IsOneRun (run.Script d script ps) (run.Script d' script' ps') = IsSameNodeRun d d' script script' ps ps'
IsOneRun (run.World d w ps) (run.World d' w' ps') = IsSameWorld d d' w w' ps ps'
IsOneRun _ _ = ⊥

-- one text, or the same runs
abbrev pub SameText : Owed → Owed → Type 0
SameText (a_text whole bs) (a_text whole' bs') = bs ≡ bs'
SameText (a_run r) (a_run r') = IsOneRun r r'
SameText _ _ = ⊥
