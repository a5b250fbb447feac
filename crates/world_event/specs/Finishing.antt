-- What an event records, cancels and schedules after its node's turns.
use Rattle.std.specs.Prelude.{◌≡◌, ℕ, ◌≤◌, List, [], ◌∷◌, ◌++◌, map, None}
use Rattle.mate_num.specs.Lists.{Each}
use Rattle.mate_num.specs.declared.call.Stamp.{Stamp}
use Rattle.node_open.specs.View.{heard_of}
use Rattle.node_open.specs.Calls.{told_from}
use Rattle.mate_journal.specs.Journal.{JournalEntry, state_after_entries}
use Rattle.capsule_exchange.specs.Knowledge.{knowledge}
use Rattle.event_queue.specs.Agenda.{due_at}
use Rattle.radio_sim.specs.Radio.{Ether}
use Rattle.world_rules.specs.World.{World, handlers}
use Rattle.world_rules.specs.Effect.{event_node}
use Rattle.world_rules.specs.State.{Moment, WorldState, node_at, effect_at, air_made, messages, timer_after, still_pumps, node_after, after_moment}
use Rattle.world_air.specs.Air.{radio_event, aired_at, IsAirOf, AreFitPackets}
use Rattle.world_air.specs.Calls.{AreCallsOf}
use Rattle.journal_laws.specs.Waiting.{WaitApart, AreAwaited, asked_of}
use Rattle.world_state.specs.Standing.{IsEffectOf}
use Rattle.world_state.specs.declared.effect.Effect.{Effect}
use Rattle.world_state.specs.declared.mote.Mote.{Mote}

-- none of these calls anything
abbrev pub CallNothing : List JournalEntry → Type 0
CallNothing = Each (λ t. asked_of t ≡ None)

-- its node did its part, which calls nothing, and had its turns; the log's entries from a position on are
-- those that it made in these
pub record HasSettled (w : World) (s : WorldState) (m : Moment) (from : ℕ) (x : Mote) (r : Effect) : Type 0 where
  pub front : List JournalEntry
  pub quiet : CallNothing front
  pub told : m.told ≡ front ++ told_from from x.node.log
  pub reading : heard_of x.node ≡ state_after_entries w.machine (node_at w s m).reading m.told
  pub timer : x.timer ≡ timer_after (node_at w s m) (effect_at w s m) m.time
  pub exchange : x.exchange ≡ knowledge (handlers w) ((effect_at w s m).happened ++ (node_at w s m).exchange)
  pub pumps : x.pumps ≡ still_pumps m.cause (effect_at w s m) (node_at w s m)
  pub calls : AreCallsOf w (event_node w m.cause) (node_at w s m).called x.calls
  pub effect : IsEffectOf (node_at w s m) m.cause w r
  pub apart : WaitApart (heard_of x.node)
  pub awaited : AreAwaited (heard_of x.node) (told_from from x.node.log)

-- what the rules record, leave and schedule is on the radio, and the node knows whether a pump is due and what was called
pub record IsFinished (w : World) (s : WorldState) (m : Moment) (at : Stamp) (old new : Ether) (before after : Mote) : Type 0 where
  pub due : (t : ℕ) → t ≤ w.until → due_at t new.agenda.items ≡ map (radio_event w) ((after_moment w s m).due t)
  pub air : new.air ≡ old.air ++ map (aired_at at (event_node w m.cause)) (air_made w s m)
  pub gone : new.gone ≡ old.gone
  pub stands : IsAirOf w (after_moment w s m).senders new
  pub fit : AreFitPackets w (messages w m.told)
  pub until : new.agenda.until ≡ old.agenda.until
  pub now : new.agenda.now ≡ old.agenda.now
  pub pumps : after.pumps ≡ (node_after w (node_at w s m) m).pumps
  pub calls : AreCallsOf w (event_node w m.cause) (node_after w (node_at w s m) m).called after.calls
  pub same : after ≡ record before { pumps = after.pumps; calls = after.calls }
