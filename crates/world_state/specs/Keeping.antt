-- What the nodes and the radio of a world have at hand of what they recorded.
use Rattle.std.specs.Prelude.{◌≡◌, ◌<◌, ℕ, List, length, slice_get, slice_set, Some, All}
use Rattle.mate_journal.specs.Log.{IsSameLog}
use Rattle.mate_journal.specs.OpenLog.{nothing_gone, gone_of}
use Rattle.mate_journal.specs.Pace.{Pace}
use Rattle.node_open.specs.View.{HasPace}
use Rattle.world_state.specs.declared.mote.Mote.{Mote}
use Rattle.world_state.specs.Reporting.{HaveChanged}
use Rattle.world_state.specs.declared.simulation.Simulation.{Simulation}
use Rattle.world_state.specs.declared.simulation.Written.{Written}
use Rattle.world_state.specs.declared.simulation.Written.TheVariants.{Kept, Forgotten}

-- nothing is forgotten
pub record IsWhole (s : Simulation) : Type 0 where
  pub nodes : All (λ (m : Mote). m.node.gone ≡ nothing_gone) s.motes.items
  pub air : s.radio.gone ≡ 0

-- all that the node recorded is forgotten, and nothing else of it changed but the room of its log
pub record HasForgotten (old new : Mote) : Type 0 where
  pub description : new.node.description ≡ old.node.description
  pub log : IsSameLog new.node.log old.node.log
  pub gone : new.node.gone ≡ gone_of old.node.log
  pub pace : (p : Pace) → HasPace old.node p → HasPace new.node p
  pub rest : new ≡ record old { node = new.node }
  pub few : length old.node.log.entries < 3999999999

-- so it is of the first of the nodes
abbrev pub HaveForgotten : ℕ → List Mote → List Mote → Type 0
HaveForgotten n old new = HaveChanged HasForgotten n old new

-- so little was recorded by the node and on the air that more can be counted
pub record IsFew (s : Simulation) (node : ℕ) : Type 0 where
  pub log : (m : Mote) → slice_get s.motes.items node ≡ Some m → length m.node.log.entries < 3999999999
  pub air : length s.radio.air < 4000000000

-- all that the node and the radio recorded is forgotten, and nothing else changed but the room of the node's log
pub record LetsGo (old new : Simulation) (node : ℕ) : Type 0 where
  pub before : Mote
  pub after : Mote
  pub found : slice_get old.motes.items node ≡ Some before
  pub motes : new.motes.items ≡ slice_set old.motes.items node after
  pub forgets : HasForgotten before after
  pub radio : new.radio ≡ record old.radio { gone = length old.radio.air }
  pub records : new.records ≡ old.records

-- that is forgotten if it is to be, and else nothing changed
abbrev pub LetsGoAsTold : Written → Simulation → Simulation → ℕ → Type 0
LetsGoAsTold Kept old new node = new ≡ old
LetsGoAsTold Forgotten old new node = LetsGo old new node
