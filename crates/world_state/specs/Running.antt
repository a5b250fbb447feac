-- What a world's run keeps on its way.
use Rattle.std.specs.Prelude.{◌≡◌, ℕ, suc, ◌<◌, ◌≤◌, List, length, slice_get, IsSomeAnd}
use Rattle.mate_num.specs.declared.call.Stamp.{Stamp}
use Rattle.mate_journal.specs.NodeScript.{records_max}
use Rattle.radio_sim.specs.declared.shared_event.SharedEvent.{SharedEvent}
use Rattle.world_rules.specs.World.{World}
use Rattle.world_rules.specs.State.{Moment, state}
use Rattle.world_rules.specs.Cause.{Cause}
use Rattle.world_rules.specs.Run.{HaveCome, IsNext, airs}
use Rattle.world_run_laws.specs.Sound.{HaveFitMessages, HasWellFormed}
use Rattle.world_air.specs.Air.{radio_event}
use Rattle.world_state.specs.Standing.{IsTakenFrom}
use Rattle.world_state.specs.StandingAfter.{IsRadioAfter, IsMoteAfter, coming}
use Rattle.world_state.specs.declared.simulation.Simulation.{Simulation}

-- `events` events came, and the radio, the nodes and the count of records are those after them
pub record StandsAfter (w : World) (events : ℕ) (s : Simulation) : Type 0 where
  pub moments : List Moment
  pub come : HaveCome w moments
  pub count : length moments ≡ events
  pub radio : IsRadioAfter w moments s.radio
  pub nodes : length s.motes.items ≡ w.nodes
  pub motes : (k : ℕ) → k < w.nodes → IsSomeAnd (slice_get s.motes.items k) (IsMoteAfter w moments k)
  pub records : s.records ≡ (state w moments).records
  pub well_formed : (k : ℕ) → k < w.nodes → HasWellFormed w k moments

-- the next event that is due was taken from the radio: it has this stamp and, if it is to be begun, room
pub record StandsAtNext (w : World) (event : SharedEvent) (at : Stamp) (s : Simulation) : Type 0 where
  pub moments : List Moment
  pub cause : Cause
  pub come : HaveCome w moments
  pub next : IsNext (state w moments) at.time cause
  pub in_time : at.time ≤ w.until
  pub room : s.records < records_max
  pub is : radio_event w cause ≡ event
  pub stamp : at.event ≡ suc (length moments)
  pub taken : IsTakenFrom w (state w moments) (coming at.time cause) s.radio
  pub air : s.radio.air ≡ airs w moments
  pub nodes : length s.motes.items ≡ w.nodes
  pub motes : (k : ℕ) → k < w.nodes → IsSomeAnd (slice_get s.motes.items k) (IsMoteAfter w moments k)
  pub records : s.records ≡ (state w moments).records
  pub fit : HaveFitMessages w moments
  pub well_formed : (k : ℕ) → k < w.nodes → HasWellFormed w k moments
