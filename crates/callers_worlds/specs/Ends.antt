-- The end of an event: what `finish` asks for, and the moment of a run that it ends.
use Rattle.std.specs.Prelude.{◌≡◌, ◌+◌, ◌≤◌, ℕ, not, ◌&&◌, true, [], ◌∷◌, None, length, All}
use Rattle.std.specs.List.{flat_map}
use Rattle.mate_num.specs.declared.bounds.TheConstants.{HOUR}
use Rattle.vm_shape.specs.declared.description.Description.{Description}
use Rattle.node_open.specs.declared.open_node.TheConstants.{SETTLING_ENTRIES}
use Rattle.packet_codec.specs.Packet.{IsRightPacket}
use Rattle.packet_codec.specs.declared.packet.Packet.{Packet}
use Rattle.script_steps.specs.World.{IsRightWorld}
use Rattle.script_steps.specs.declared.world.World.{World as Script}
use Rattle.radio_sim.specs.Radio.{Ether, wires_of}
use Rattle.radio_sim.specs.declared.shared_event.SharedEvent.{SharedEvent}
use Rattle.world_rules.specs.Effect.{event_node, begun_length, is_owing}
use Rattle.world_rules.specs.State.{Moment, WorldState, node_at, effect_at, node_after, still_pumps, next_period, deliveries, sendings, packets_of, left_due}
use Rattle.world_rules.specs.World.{World}
use Rattle.world_air.specs.Air.{radio_event}
use Rattle.world_state.specs.Standing.{IsTakenFrom}
use Rattle.world_event.specs.Finishing.{HasSettled}
use Rattle.world_state.specs.declared.effect.Effect.{Effect}
use Rattle.world_state.specs.declared.mote.Mote.{Mote}

-- the event of a node can end at this time; its entries are those from a position on
pub record MayFinish (d : Description) (script : Script) (radio : Ether) (x : Mote) (number : ℕ) (r : Effect) (from time : ℕ) : Type 0 where
  pub world : IsRightWorld d script
  pub machine : x.node.description ≡ d
  pub kept : x.node.gone.entries ≤ from
  pub low : from ≤ length x.node.log.entries
  pub short : length x.node.log.entries ≤ from + SETTLING_ENTRIES
  pub ahead : radio.agenda.now ≤ time
  pub hour : time ≤ HOUR
  pub few : length radio.air ≤ 1000000
  pub wires : length (wires_of radio number) ≤ 4096
  pub right : All (IsRightPacket (length d.handlers.items)) r.sends.items
  pub interval : r.begins ≡ true → time ≤ x.timer.running.begin
  pub counts : length x.calls.counts.items ≡ length d.functions.items

-- it is this moment of a run, after its node's turns
pub record IsMoment (w : World) (s : WorldState) (m : Moment) (radio : Ether) (x : Mote) (number : ℕ) (event : SharedEvent) (r : Effect)
    (from time : ℕ) : Type 0 where
  pub time_is : m.time ≡ time
  pub cause_is : radio_event w m.cause ≡ event
  pub node_is : event_node w m.cause ≡ number
  pub taken : IsTakenFrom w s m radio
  pub settled : HasSettled w s m from x r

-- it is one, and at this time of the run nothing else is left to come
pub record IsMomentBefore (t : ℕ) (w : World) (s : WorldState) (m : Moment) (radio : Ether) (x : Mote) (number : ℕ) (event : SharedEvent)
    (r : Effect) (from time : ℕ) : Type 0 where
  pub is : IsMoment w s m radio x number event r from time
  pub in_time : t ≤ w.until
  pub none_left : left_due w s m t ≡ []

-- a pump falls due that the event schedules, and before it no period, interval or delivery of that time
pub record IsPumpFirst (w : World) (s : WorldState) (m : Moment) : Type 0 where
  pub falls_due : (not (still_pumps m.cause (effect_at w s m) (node_at w s m)) && is_owing w (node_after w (node_at w s m) m).exchange)
      ≡ true
  pub no_period : next_period w m.cause m.time ≡ []
  pub no_interval : begun_length (node_at w s m) (effect_at w s m) ≡ None
  pub no_deliveries : flat_map (deliveries w (event_node w m.cause) m.time) (sendings w s (event_node w m.cause) (packets_of w s m)) ≡ []

-- the effect sends this packet and records nothing else, and no interval begins
pub record SendsAlone (w : World) (s : WorldState) (m : Moment) (p : Packet) : Type 0 where
  pub sends : (effect_at w s m).sends ≡ p ∷ []
  pub first : (effect_at w s m).first ≡ []
  pub no_interval : begun_length (node_at w s m) (effect_at w s m) ≡ None
