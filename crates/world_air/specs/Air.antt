-- What a radio holds for the rules of a world: causes as the radio's events, and packets that a node sends.
use Rattle.std.specs.Prelude.{◌≡◌, ℕ, suc, ◌+◌, ◌*◌, ◌≤◌, ◌==◌, List, [], ◌++◌, length, map, count_by}
use Rattle.std.specs.List.{flat_map}
use Rattle.mate_num.specs.Lists.{Each}
use Rattle.mate_num.specs.declared.call.Stamp.{Stamp}
use Rattle.mate_journal.specs.declared.air.Air.{Air}
use Rattle.mate_journal.specs.declared.air.Aired.{Aired}
use Rattle.event_queue.specs.declared.queue.Timed.{Timed}
use Rattle.event_queue.specs.Agenda.{due_at}
use Rattle.packet_codec.specs.declared.packet.Packet.{Packet}
use Rattle.packet_codec.specs.Packet.{IsRightPacket, HasPacketRanges}
use Rattle.radio_sim.specs.declared.shared_event.SharedEvent.{SharedEvent}
use Rattle.radio_sim.specs.declared.shared_event.SharedEvent.TheVariants as radio
use Rattle.radio_sim.specs.Radio.{Ether, wires_of, IsEtherOf}
use Rattle.script_steps.specs.declared.world.World.{World as Script}
use Rattle.world_rules.specs.Cause.{Cause}
use Rattle.world_rules.specs.Cause as event
use Rattle.world_rules.specs.World.{World, handlers}
use Rattle.world_rules.specs.State.{Scheduled, Sending, sent_bytes, numbered_sendings, air_of_sending, deliveries}

-- ---- causes as events of the radio

-- the event of a cause: a packet as its bytes
abbrev pub radio_event : World → Cause → SharedEvent
radio_event w (event.Planned line) = radio.Planned line
radio_event w (event.Period node h) = radio.Period node h
radio_event w (event.Fire node) = radio.Fire node
radio_event w (event.Expire node) = radio.Expire node
radio_event w (event.Pump node) = radio.Pump node
radio_event w (event.Due node c inv value) = radio.Due node c inv value
radio_event w (event.Deliver link number packet) = radio.Deliver link number (sent_bytes w packet)

abbrev pub timed_event : World → Scheduled → Timed SharedEvent
timed_event w x = record { time = x.time; item = radio_event w x.cause }

-- what is scheduled, as items of the radio's agenda
abbrev pub timed_events : World → List Scheduled → List (Timed SharedEvent)
timed_events w xs = map (timed_event w) xs

-- records of one event
abbrev pub aired_at : Stamp → ℕ → Air → Aired
aired_at at node a = record { stamp = at; node = node; air = a }

-- ---- the radio

-- the radio of this world, if these nodes sent so far, in order; the script has what a radio reads of a world
abbrev pub air_script : World → Script
air_script w = record {
  nodes = w.nodes;
  random = w.random;
  until = w.until;
  suppress = w.suppress;
  links = w.links;
  series = [];
  events = [];
  files = [];
}

pub record IsAirOf (w : World) (senders : List ℕ) (e : Ether) : Type 0 where
  pub stands : IsEtherOf (air_script w) senders e
  pub delay : e.delay ≡ w.description.radio.delay

-- more records, and at each time more items after those that came there
pub record EtherGrows (old new : Ether) (airs : List Aired) (items : List (Timed SharedEvent)) : Type 0 where
  pub air : new.air ≡ old.air ++ airs
  pub gone : new.gone ≡ old.gone
  pub due : (t : ℕ) → t ≤ old.agenda.until → due_at t new.agenda.items ≡ due_at t old.agenda.items ++ due_at t items
  pub until : new.agenda.until ≡ old.agenda.until
  pub now : new.agenda.now ≡ old.agenda.now

-- ---- packets

-- right for the machine, with numbers in their types' ranges
pub record IsFitPacket (w : World) (p : Packet) : Type 0 where
  pub right : IsRightPacket (handlers w) p
  pub ranges : HasPacketRanges p

abbrev pub AreFitPackets : World → List Packet → Type 0
AreFitPackets w = Each (IsFitPacket w)

-- the packets that the node sends next, if these nodes sent before
abbrev pub sendings_next : ℕ → List ℕ → List Packet → List Sending
sendings_next node senders packets = numbered_sendings (suc (length senders)) (count_by (λ k. k == node) senders) packets

abbrev pub air_of_all : World → ℕ → List Sending → List Air
air_of_all w node xs = flat_map (air_of_sending w node) xs

abbrev pub deliveries_of_all : World → ℕ → ℕ → List Sending → List Scheduled
deliveries_of_all w node time xs = flat_map (deliveries w node time) xs

-- In this event the node sent these packets, in their order: they are recorded with what links lose of them, and are
-- delivered, as the rules say.
pub record SendsAll (w : World) (node : ℕ) (at : Stamp) (senders : List ℕ) (packets : List Packet) (old new : Ether) : Type 0 where
  pub grows : EtherGrows old new (map (aired_at at node) (air_of_all w node (sendings_next node senders packets)))
      (timed_events w (deliveries_of_all w node at.time (sendings_next node senders packets)))
  pub stands : IsAirOf w (senders ++ map (λ (p : Packet). node) packets) new
  pub fit : AreFitPackets w packets

-- ---- room

-- of n transmissions of a node
abbrev pub air_room : Ether → ℕ → ℕ → ℕ
air_room e node n = length e.air + n * (1 + length (wires_of e node))

-- after n transmissions of the node, or fewer
pub record IsSteady (node n : ℕ) (old new : Ether) : Type 0 where
  pub now : new.agenda.now ≡ old.agenda.now
  pub air : length new.air ≤ air_room old node n
  pub wires : length (wires_of new node) ≡ length (wires_of old node)
