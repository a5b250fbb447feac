-- What was read of a world's script, and what is right of it and of a line: this follows the code.
use Rattle.std.specs.Prelude.{◌≡◌, ℕ, ◌+◌, ◌*◌, ◌<◌, ◌≤◌, ◌==◌, ◌&&◌, Bool, true, false, if◌then◌else◌, List, [], ◌∷◌, length, slice_index}
use Rattle.std.specs.Prelude.{slice_index_or, All, Option, option_map, Result, Ok, Err, ⊤}
use Rattle.std.specs.List.{AllPairs}
use Rattle.mate_num.specs.declared.bounds.TheConstants.{FUNCTIONS_MAX, HANDLERS_MAX, HOUR, NODES_MAX}
use Rattle.script_reader.specs.declared.draft.TheConstants.{PAIRS, PLACES}
use Rattle.vm_shape.specs.declared.description.Description.{Description}
use Rattle.script_steps.specs.declared.world.World.{World}
use Rattle.script_steps.specs.declared.world.Series.{Series}
use Rattle.script_steps.specs.declared.world.Planned.{Planned}
use Rattle.script_steps.specs.World.{IsRightLink, AreOtherLinks, IsRightSeries, AreOtherSeries, IsRightPlanned, IfInjects, Follow}
use Rattle.script_steps.specs.Words.{WordReading}
use Rattle.script_steps.specs.NodeReader.{files_after}
use Rattle.script_reader.specs.declared.stage.Stage.{Stage}
use Rattle.script_reader.specs.declared.stage.Stage.TheVariants as stage
use Rattle.script_reader.specs.declared.refusal.Refusal.{Refusal}
use Rattle.script_reader.specs.declared.refusal.Refusal.TheVariants as refusal
use Rattle.script_reader.specs.declared.command.Command.{Command}
use Rattle.script_reader.specs.declared.command.Command.TheVariants as command
use Rattle.script_reader.specs.declared.draft.Draft.{Draft}
use Rattle.script_reader.specs.WorldLines.{WorldSaid, SaysNodes, SaysRandom, SaysUntil, SaysSuppress, SaysLink, SaysSeries, SaysPlanned}
use Rattle.script_reader.specs.WorldLines.{WorldProgress, is_free, is_linked}

-- what a function returned, seen by view, and the words that it left are what the reading gives, if memory was not refused
abbrev pub ReadsWithMemory : {X Y : Type 0} → (X → Y) → WordReading Y → List (List ℕ) → Result X Refusal → List (List ℕ) → Type 0
ReadsWithMemory view reading before (Ok x) after = reading before ≡ Ok (record { value = view x; rest = after })
ReadsWithMemory view reading before (Err (refusal.Bad cause)) after = reading before ≡ Err cause
ReadsWithMemory view reading before (Err refusal.NoMemory) after = ⊤

abbrev pub world_progress_of : Draft → WorldProgress
world_progress_of r = record { stage = r.stage; world = r.world; time = r.time; newest = r.newest }

abbrev pub world_said_of : Command → WorldSaid
world_said_of (command.Nodes nodes) = SaysNodes nodes
world_said_of (command.Random random) = SaysRandom random
world_said_of (command.Until until) = SaysUntil until
world_said_of (command.Suppress on) = SaysSuppress on
world_said_of (command.Link link both) = SaysLink link both
world_said_of (command.Series series) = SaysSeries series
world_said_of (command.Plan planned file) = SaysPlanned planned (option_map (λ file. file.now) file)

-- ---- what is right of every progress, and of what a line says

pub record HasNoLists (w : World) : Type 0 where
  pub links : w.links ≡ []
  pub series : w.series ≡ []
  pub events : w.events ≡ []

-- before the settings
abbrev pub IsBare : Stage → World → Type 0
IsBare stage.Nodes w = HasNoLists w
IsBare stage.Random w = HasNoLists w
IsBare stage.Until w = HasNoLists w
IsBare stage.Settings w = Unit {0}
IsBare stage.Events w = Unit {0}

-- an injection's version is at most the newest one of its handler
abbrev pub IsNotedAt : List ℕ → Planned → Type 0
IsNotedAt newest e = IfInjects e.what (λ handler version. version ≤ slice_index newest handler.0)

pub record KeepsWorld (d : Description) (p : WorldProgress) : Type 0 where
  pub bare : IsBare p.stage p.world
  pub nodes_low : 1 ≤ p.world.nodes
  pub nodes_high : p.world.nodes ≤ NODES_MAX
  pub until_low : 1 ≤ p.world.until
  pub until_high : p.world.until ≤ HOUR
  pub links : All (IsRightLink p.world.nodes) p.world.links
  pub one_link : AllPairs AreOtherLinks p.world.links
  pub series : All (IsRightSeries d p.world.nodes) p.world.series
  pub one_series : AllPairs AreOtherSeries p.world.series
  pub events : All (IsRightPlanned d p.world.nodes p.world.until (length p.world.files)) p.world.events
  pub in_order : AllPairs Follow p.world.events
  pub past : All (λ e. e.time ≤ p.time) p.world.events
  pub places : length p.newest ≡ HANDLERS_MAX
  pub noted : All (IsNotedAt p.newest) p.world.events

-- the event's file is named with it, its time isn't before the last one, and its version is newer than the newest one
pub record IsRightEvent (d : Description) (p : WorldProgress) (e : Planned) (file : Option (List ℕ)) : Type 0 where
  pub right : IsRightPlanned d p.world.nodes p.world.until (files_after (length p.world.files) file) e
  pub later : p.time ≤ e.time
  pub newer : IfInjects e.what (λ handler version. slice_index p.newest handler.0 < version)

abbrev pub IsRightWorldSaid : Description → WorldProgress → WorldSaid → Type 0
IsRightWorldSaid d p (SaysNodes nodes) = (1 ≤ nodes) × (nodes ≤ NODES_MAX) × (p.stage ≡ stage.Nodes)
IsRightWorldSaid d p (SaysRandom random) = p.stage ≡ stage.Random
IsRightWorldSaid d p (SaysUntil until) = (1 ≤ until) × (until ≤ HOUR) × (p.stage ≡ stage.Until)
IsRightWorldSaid d p (SaysSuppress on) = Unit {0}
IsRightWorldSaid d p (SaysLink link both) = IsRightLink p.world.nodes link × (is_free p.world.links both link.from link.to ≡ true)
    × (p.stage ≡ stage.Settings)
IsRightWorldSaid d p (SaysSeries series) = IsRightSeries d p.world.nodes series × (p.stage ≡ stage.Settings)
IsRightWorldSaid d p (SaysPlanned e file) = IsRightEvent d p e file

-- ---- the tables

-- the series is of this node and function
abbrev pub is_of_pair : ℕ → ℕ → Series → Bool
is_of_pair node fun s = (s.node == node) && (s.fun.0 == fun)

-- how many series there are up to the one of a node and a function, counted from a number on; 0 for none
abbrev pub place_from : ℕ → ℕ → ℕ → List Series → ℕ
place_from n node fun [] = 0
place_from n node fun (s ∷ series) = if is_of_pair node fun s then n else place_from (n + 1) node fun series

-- the tables of links and of series agree with the lists
pub record AreTables (linked : List Bool) (places : List ℕ) (w : World) : Type 0 where
  pub linked_len : length linked ≡ PAIRS
  pub places_len : length places ≡ PLACES
  pub links : (from to : ℕ) → from < NODES_MAX → to < NODES_MAX
      → slice_index_or linked (from * NODES_MAX + to) false ≡ is_linked from to w.links
  pub series : (node fun : ℕ) → node < NODES_MAX → fun < FUNCTIONS_MAX
      → slice_index places (node * FUNCTIONS_MAX + fun) ≡ place_from 1 node fun w.series
