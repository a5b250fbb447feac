-- A world has one report.
use Rattle.std.specs.Prelude.{◌≡◌, ◌<◌, List, ◌∷◌, map}
use Rattle.mate_journal.specs.Journal.{journal_of}
use Rattle.mate_journal.specs.NodeScript.{RunEnd}
use Rattle.mate_journal.specs.declared.report.Report.{Report}
use Rattle.world_rules.specs.World.{World}
use Rattle.world_rules.specs.Effect.{event_node}
use Rattle.world_rules.specs.State.{Moment}
use Rattle.world_rules.specs.Run.{HaveCome}
use Rattle.world_rules.specs.Report.{IsWorldReport}
use Rattle.report_writer.specs.Text.{text}
use Rattle.report_writer.specs.Brief.{brief}
use Rattle.report_laws.specs.Ending.{EndsByItself}

-- Each event is of a node of the world, as in the world of a right script. (A report has no journal of any other node, so
-- it couldn't say which invocations start there.)
abbrev pub EventsAreOfNodes : World → Type 0
EventsAreOfNodes w = (m : Moment) (before : List Moment) → HaveCome w (m ∷ before) → event_node w m.cause < w.nodes

-- two reports say the same
pub record TellTheSame (w : World) (how how' : RunEnd) (r r' : Report) : Type 0 where
  pub ends : how ≡ how'
  pub journals : map journal_of r.nodes ≡ map journal_of r'.nodes
  pub air : r.air ≡ r'.air
  pub events : r.events ≡ r'.events
  pub whole : r.whole ≡ r'.whole
  pub text : text w.description r ≡ text w.description r'
  pub brief : brief w.description r ≡ brief w.description r'

-- two reports of runs that end by themselves say the same, and are of the same events
abbrev pub WorldHasOneReport : World → Type 0
WorldHasOneReport w = (how how' : RunEnd) (r r' : Report) → EndsByItself how → EndsByItself how' → (is : IsWorldReport w how r)
    → (is' : IsWorldReport w how' r') → TellTheSame w how how' r r' × (is.moments ≡ is'.moments)
