-- One event of a run: the state before it, and the state after it.
use Rattle.std.specs.Prelude.{◌≡◌, ℕ, suc, ◌<◌, ◌≤◌, List, ◌∷◌, length}
use Rattle.mate_num.specs.declared.call.Stamp.{Stamp}
use Rattle.mate_journal.specs.NodeScript.{records_max}
use Rattle.radio_sim.specs.Radio.{Ether}
use Rattle.radio_sim.specs.declared.shared_event.SharedEvent.{SharedEvent}
use Rattle.world_rules.specs.Cause.{Cause}
use Rattle.world_rules.specs.World.{World}
use Rattle.world_rules.specs.Effect.{event_node}
use Rattle.world_rules.specs.State.{Moment, state}
use Rattle.world_rules.specs.Run.{IsNext, MayCome, HaveCome, airs}
use Rattle.world_air.specs.Air.{radio_event}
use Rattle.world_run_laws.specs.Sound.{HaveFitMessages}
use Rattle.world_state.specs.Standing.{IsTakenFrom}
use Rattle.world_state.specs.declared.mote.Mote.{Mote}
use Rattle.world_state.specs.StandingAfter.{IsRadioAfter, IsMoteAfter, coming}

-- the event is the next that is due after these events, it was taken from the radio, and it has room
pub record MayPerform (w : World) (ms : List Moment) (c : Cause) (number : ℕ) (event : SharedEvent) (at : Stamp) (e : Ether) (x : Mote) : Type
    0 where
  pub come : HaveCome w ms
  pub next : IsNext (state w ms) at.time c
  pub in_time : at.time ≤ w.until
  pub room : (state w ms).records < records_max
  pub cause : radio_event w c ≡ event
  pub node : event_node w c ≡ number
  pub stamp : at.event ≡ suc (length ms)
  pub taken : IsTakenFrom w (state w ms) (coming at.time c) e
  pub air : e.air ≡ airs w ms
  pub fit : HaveFitMessages w ms
  pub mote : IsMoteAfter w ms number x

-- the event came: the radio and its node are those after it, and nothing is forgotten
pub record Performed (w : World) (ms : List Moment) (c : Cause) (number : ℕ) (at : Stamp) (old new : Ether) (before after : Mote) : Type
    0 where
  pub moment : Moment
  pub time : moment.time ≡ at.time
  pub cause : moment.cause ≡ c
  pub may : MayCome w (state w ms) moment
  pub radio : IsRadioAfter w (moment ∷ ms) new
  pub mote : IsMoteAfter w (moment ∷ ms) number after
  pub air_gone : new.gone ≡ old.gone
  pub log_gone : after.node.gone ≡ before.node.gone
