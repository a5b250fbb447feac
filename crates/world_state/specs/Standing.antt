-- How a mote, its effect and the radio agree with the state of a world, by its rules.
use Rattle.std.specs.Prelude.{◌≡◌, ℕ, ◌≤◌, ◌==◌, if◌then◌else◌, map, drop}
use Rattle.std.specs.Option.{option_to_list}
use Rattle.node_open.specs.View.{heard_of, HasPace}
use Rattle.capsule_exchange.specs.Knowledge.{knowledge}
use Rattle.event_queue.specs.Agenda.{due_at}
use Rattle.radio_sim.specs.Radio.{Ether}
use Rattle.world_rules.specs.Cause.{Cause}
use Rattle.world_rules.specs.World.{World, handlers}
use Rattle.world_rules.specs.Effect.{Node, NodeEffect, node_effect, begun_length, cuts, resets}
use Rattle.world_rules.specs.State.{Moment, WorldState, is_some_length}
use Rattle.world_air.specs.Air.{radio_event, IsAirOf}
use Rattle.world_air.specs.Changes.{AreNear}
use Rattle.world_air.specs.Calls.{AreCallsOf}
use Rattle.world_state.specs.declared.effect.Effect.{Effect}
use Rattle.world_state.specs.declared.mote.Mote.{Mote}

-- the mote is the node k of the world
pub record IsMoteOf (w : World) (k : ℕ) (n : Node) (m : Mote) : Type 0 where
  pub description : m.node.description ≡ w.description
  pub reading : heard_of m.node ≡ n.reading
  pub pace : HasPace m.node n.pace
  pub timer : m.timer ≡ n.timer
  pub exchange : m.exchange ≡ knowledge (handlers w) n.exchange
  pub pumps : m.pumps ≡ n.pumps
  pub calls : AreCallsOf w k n.called m.calls

-- the code's effect is this effect of the rules
pub record IsEffectBy (n : Node) (e : NodeEffect) (r : Effect) : Type 0 where
  pub first : option_to_list r.first ≡ e.first
  pub begins : r.begins ≡ is_some_length (begun_length n e)
  pub cuts : r.cuts ≡ cuts e.deed
  pub resets : r.resets ≡ resets e.deed
  pub sends : r.sends.items ≡ e.sends

abbrev pub IsEffectOf : Node → Cause → World → Effect → Type 0
IsEffectOf n c w r = IsEffectBy n (node_effect w n c) r

-- the event was taken from the radio, and all else is there as before it
pub record IsTakenFrom (w : World) (s : WorldState) (m : Moment) (e : Ether) : Type 0 where
  pub due : (t : ℕ) → t ≤ w.until → due_at t e.agenda.items ≡ map (radio_event w) (if t == m.time then drop 1 (s.due t) else s.due t)
  pub near : (t : ℕ) → t ≤ w.until → AreNear (due_at t e.agenda.items)
  pub until : e.agenda.until ≡ w.until
  pub now : e.agenda.now ≡ m.time
  pub stands : IsAirOf w s.senders e
