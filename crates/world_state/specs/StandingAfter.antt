-- How the radio and the nodes of a world stand behind its events.
use Rattle.std.specs.Prelude.{◌≡◌, ℕ, ◌≤◌, List, [], map}
use Rattle.mate_journal.specs.Journal.{journal_of}
use Rattle.mate_journal.specs.Pace.{no_pace}
use Rattle.event_queue.specs.Agenda.{due_at}
use Rattle.radio_sim.specs.Radio.{Ether}
use Rattle.world_rules.specs.Cause.{Cause}
use Rattle.world_rules.specs.World.{World}
use Rattle.world_rules.specs.State.{Moment, state}
use Rattle.world_rules.specs.Run.{airs, journal}
use Rattle.world_laws.specs.Times.{last_time}
use Rattle.world_air.specs.Air.{radio_event, IsAirOf}
use Rattle.world_run_laws.specs.Sound.{HaveFitMessages}
use Rattle.world_state.specs.Standing.{IsMoteOf}
use Rattle.world_state.specs.declared.mote.Mote.{Mote}

-- the radio after these events, the latest first; all that was sent is right for the machine
pub record IsRadioAfter (w : World) (ms : List Moment) (e : Ether) : Type 0 where
  pub due : (t : ℕ) → t ≤ w.until → due_at t e.agenda.items ≡ map (radio_event w) ((state w ms).due t)
  pub until : e.agenda.until ≡ w.until
  pub now : e.agenda.now ≡ last_time ms
  pub air : e.air ≡ airs w ms
  pub stands : IsAirOf w (state w ms).senders e
  pub fit : HaveFitMessages w ms

-- the mote is the node k after these events, and its log has the node's journal
pub record IsMoteAfter (w : World) (ms : List Moment) (k : ℕ) (m : Mote) : Type 0 where
  pub is : IsMoteOf w k ((state w ms).nodes k) m
  pub journal : journal_of m.node.log ≡ journal w k ms

-- an event of this cause at this time
abbrev pub coming : ℕ → Cause → Moment
coming time c = record { time = time; cause = c; told = []; pace = no_pace }
