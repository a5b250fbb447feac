-- The world script in bytes, line by line; if a line is refused, the first such line and its first cause.
use Rattle.std.specs.Prelude.{ℕ, ◌<◌, Bool, true, if◌then◌else◌, List, [], ◌∷◌, ◌++◌, slice_set, replicate, Result, Ok, Err}
use Rattle.mate_num.specs.declared.bounds.TheConstants.{FUNCTIONS_MAX, NODES_MAX}
use Rattle.vm_shape.specs.declared.description.Description.{Description}
use Rattle.script_steps.specs.declared.fault.Cause.{Cause}
use Rattle.script_steps.specs.declared.fault.Cause.TheVariants.{Word}
use Rattle.script_steps.specs.declared.fault.ScriptFault.{ScriptFault}
use Rattle.script_steps.specs.declared.fault.ScriptFault.TheVariants.{BadLine}
use Rattle.script_steps.specs.declared.world.World.{World}
use Rattle.script_steps.specs.declared.world.Link.{Link}
use Rattle.script_steps.specs.declared.world.Series.{Series}
use Rattle.script_steps.specs.declared.world.What.{What}
use Rattle.script_steps.specs.declared.world.What.TheVariants as what
use Rattle.script_steps.specs.Lines.{lines, is_skipped}
use Rattle.script_steps.specs.Script.{script_from}
use Rattle.script_steps.specs.Words.{TakenWords}
use Rattle.script_steps.specs.NodeScript.{with_file}
use Rattle.script_reader.specs.declared.stage.Stage.{Stage}
use Rattle.script_reader.specs.declared.stage.Stage.TheVariants as stage
use Rattle.script_reader.specs.WorldLines.{WorldSaid, SaysNodes, SaysRandom, SaysUntil, SaysSuppress, SaysLink, SaysSeries, SaysPlanned}
use Rattle.script_reader.specs.WorldLines.{WorldProgress, a_world_line}
use Rattle.script_reader.specs.Draft.{is_of_pair}

abbrev pub turned_back : Link → Link
turned_back l = record { from = l.to; to = l.from; loss = l.loss }

abbrev pub links_of : Link → Bool → List Link
links_of l both = if both then l ∷ turned_back l ∷ [] else l ∷ []

-- the values go after those of the same node and function, or are a new series
abbrev pub with_series : Series → List Series → List Series
with_series s [] = s ∷ []
with_series s (r ∷ series) = if is_of_pair s.node s.fun.0 r then record r { values = r.values ++ s.values } ∷ series
    else r ∷ with_series s series

abbrev pub newest_with : List ℕ → What → List ℕ
newest_with newest (what.Inject program handler version) = slice_set newest handler.0 version
newest_with newest _ = newest

abbrev pub with_told : WorldProgress → WorldSaid → WorldProgress
with_told p (SaysNodes nodes) = record p { stage = stage.Random; world = record p.world { nodes = nodes } }
with_told p (SaysRandom random) = record p { stage = stage.Until; world = record p.world { random = random } }
with_told p (SaysUntil until) = record p { stage = stage.Settings; world = record p.world { until = until } }
with_told p (SaysSuppress on) = record p { world = record p.world { suppress = on } }
with_told p (SaysLink link both) = record p { world = record p.world { links = p.world.links ++ links_of link both } }
with_told p (SaysSeries series) = record p { world = record p.world { series = with_series series p.world.series } }
with_told p (SaysPlanned event file) = record {
  stage = stage.Events;
  world = record p.world { events = p.world.events ++ event ∷ []; files = with_file p.world.files file };
  time = event.time;
  newest = newest_with p.newest event.what;
}

abbrev pub when_told : WorldProgress → Result (TakenWords WorldSaid) Cause → Result WorldProgress Cause
when_told p (Ok t) = Ok (with_told p t.value)
when_told p (Err cause) = Err cause

-- the progress after a line
unfoldable pub after_world_line : Description → WorldProgress → List (List ℕ) → Result WorldProgress Cause
after_world_line d p words =
    if is_skipped words then Ok p
    else when_told p (a_world_line d p words)

-- before the first line; the numbers of a script replace these before they are used
abbrev pub no_world : WorldProgress
no_world = record {
  stage = stage.Nodes;
  world = record { nodes = 1; random = 0; until = 1; suppress = true; links = []; series = []; events = []; files = [] };
  time = 0;
  newest = replicate 8 0;
}

-- at the end none of the first three lines is missing
abbrev pub world_at_end : Stage → ℕ → WorldProgress → Result World ScriptFault
world_at_end stage.Nodes number p = Err (BadLine number Word)
world_at_end stage.Random number p = Err (BadLine number Word)
world_at_end stage.Until number p = Err (BadLine number Word)
world_at_end stage.Settings number p = Ok p.world
world_at_end stage.Events number p = Ok p.world

-- the world of the script in the bytes
unfoldable pub world_script_in : Description → List ℕ → Result World ScriptFault
world_script_in d bytes = script_from (after_world_line d) (λ number p. world_at_end p.stage number p) 1 no_world (lines bytes)

-- the numbers by which the tables are looked up
abbrev pub HasPlace : WorldProgress → WorldSaid → Type 0
HasPlace p (SaysNodes nodes) = Unit {0}
HasPlace p (SaysRandom random) = Unit {0}
HasPlace p (SaysUntil until) = Unit {0}
HasPlace p (SaysSuppress on) = Unit {0}
HasPlace p (SaysLink link both) = (link.from < NODES_MAX) × (link.to < NODES_MAX)
HasPlace p (SaysSeries series) = (series.node < NODES_MAX) × (series.fun.0 < FUNCTIONS_MAX)
HasPlace p (SaysPlanned e file) = Unit {0}
