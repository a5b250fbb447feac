-- What an event does to its node, one row a cause.
use Rattle.std.specs.Prelude.{ℕ, Bool, true, false, bytes_eq, List, [], ◌∷◌, ℤ, Option, Some, None, slice_get, unwrap_or}
use Rattle.std.specs.Option.{option_map_or}
use Rattle.std.specs.List.{list_any}
use Rattle.arrayvec.specs.ArrayVec.{ArrayVec}
use Rattle.mate_num.specs.declared.id.HandlerId.{HandlerId}
use Rattle.mate_num.specs.declared.id.FunId.{FunId}
use Rattle.mate_journal.specs.Machine.{HeldProgram}
use Rattle.mate_journal.specs.Journal.{NodeState}
use Rattle.mate_journal.specs.Pace.{Pace}
use Rattle.mate_journal.specs.declared.air.Air.{Air}
use Rattle.mate_journal.specs.declared.air.Air.TheVariants as air
use Rattle.packet_codec.specs.declared.packet.Packet.{Packet}
use Rattle.packet_codec.specs.declared.packet.Packet.TheVariants.{Vector, Status, Fragment, App}
use Rattle.trickle_timer.specs.Intervals as trickle
use Rattle.trickle_timer.specs.Timer.{Timer, packet_event}
use Rattle.trickle_timer.specs.declared.timer.Fire.{Fire}
use Rattle.trickle_timer.specs.declared.timer.Fire.TheVariants as fire
use Rattle.capsule_exchange.specs.Happenings.{Happening, Hears, Sends, Installs, Forgets, held_versions, target_version, collected_image}
use Rattle.capsule_exchange.specs.Happenings.{asks_after, completed_by, next_slot, fragment_for, is_marked_slot, slots_from}
use Rattle.script_steps.specs.declared.world.Link.{Link}
use Rattle.world_rules.specs.Cause.{Cause}
use Rattle.world_rules.specs.Cause as event
use Rattle.world_rules.specs.World.{World, PlannedLine, Want, Inject, Post, Show, ResetNode, Noise, handlers, receiver, receivers}

-- a node: the state that its journal leads to, the pace of its invocations, its Trickle timer, what happened to its exchange,
-- the latest first, whether a pump is due, and the functions that it called, in order
pub record Node : Type 0 where
  pub reading : NodeState
  pub pace : Pace
  pub timer : Timer
  pub exchange : List Happening
  pub pumps : Bool
  pub called : List FunId

-- what an event owes its node's journal, before invocations run
pub data Deed : Type 0 where
  Nothing : Deed
  Installing : (program : HeldProgram) → Deed
  Posting : (handlers : List HandlerId) (payload : ArrayVec ℤ) → Deed
  Answering : (invocation : ℕ) (value : ℤ) → Deed
  Showing Resetting : Deed

-- what is recorded of the air first; the deed; what happens to the exchange, the latest first; what happens to the timer;
-- and the packets that are sent, apart from messages
pub record NodeEffect : Type 0 where
  pub first : List Air
  pub deed : Deed
  pub happened : List Happening
  pub timer : Option trickle.TimerEvent
  pub sends : List Packet

abbrev pub no_effect : NodeEffect
no_effect = record { first = []; deed = Nothing; happened = []; timer = None; sends = [] }

abbrev pub of_line : Want → NodeEffect
of_line (Inject p) = record no_effect {
  deed = Installing p;
  happened = Installs p.handler.0 p.version p.image.items
      ∷ [];
  timer = Some trickle.Reset;
}
of_line (Post h payload) = record no_effect { deed = Posting (h ∷ []) payload }
of_line Show = record no_effect { deed = Showing }
of_line ResetNode = record no_effect { deed = Resetting; happened = Forgets ∷ []; timer = Some trickle.Again }
of_line (Noise bytes) = record no_effect { first = air.Noise bytes ∷ [] }

-- the program that became complete
abbrev pub collected : HandlerId → List Happening → HeldProgram
collected h hs = record { handler = h; version = target_version h.0 hs; image = unwrap_or (collected_image h.0 hs) (record { items = [] }) }

abbrev pub of_fragment : Packet → List Happening → Option HandlerId → NodeEffect
of_fragment packet before None = record no_effect { happened = Hears packet ∷ [] }
of_fragment packet before (Some h) =
    let p = collected h (Hears packet ∷ before) in
    record no_effect {
      deed = Installing p;
      happened = Installs h.0 p.version p.image.items ∷ Hears packet
          ∷ [];
      timer = Some trickle.Reset;
    }

abbrev pub of_packet : World → List Happening → Packet → NodeEffect
of_packet w before (Vector versions) = record no_effect {
  happened = Hears (Vector versions) ∷ [];
  timer = Some (packet_event (bytes_eq versions.items (held_versions (handlers w) before)));
  sends = asks_after (handlers w) (Vector versions) before;
}
of_packet w before (Status g version missing) = record no_effect { happened = Hears (Status g version missing) ∷ [] }
of_packet w before (Fragment g version index count large bytes) =
    let packet = Fragment g version index count large bytes in of_fragment packet before (completed_by packet before)
of_packet w before (App payload) = record no_effect { deed = Posting (receivers w) payload; happened = Hears (App payload) ∷ [] }

abbrev pub of_point : World → Node → Fire → NodeEffect
of_point w n fire.Send = record no_effect { sends = Vector (record { items = held_versions (handlers w) n.exchange }) ∷ [] }
of_point w n fire.Keep = record no_effect { first = air.Keep ∷ [] }

abbrev pub of_slot : List Happening → Option ℕ → NodeEffect
of_slot before None = no_effect
of_slot before (Some slot) = record no_effect { happened = Sends slot ∷ []; sends = fragment_for before slot ∷ [] }

abbrev pub sender : World → ℕ → ℕ
sender w j = option_map_or (λ (l : Link). l.from) (slice_get w.links j) 0

abbrev pub node_effect : World → Node → Cause → NodeEffect
node_effect w n (event.Planned line) = option_map_or (λ (l : PlannedLine). of_line l.what) (slice_get w.plan line) no_effect
node_effect w n (event.Period node h) = record no_effect { deed = Posting (h ∷ []) (record { items = [] }) }
node_effect w n (event.Fire node) = of_point w n (trickle.at_point n.timer.set n.timer.running w.suppress)
node_effect w n (event.Expire node) = record no_effect { timer = Some trickle.Expired }
node_effect w n (event.Pump node) = of_slot n.exchange (next_slot (handlers w) n.exchange)
node_effect w n (event.Due node c inv value) = record no_effect { deed = Answering inv value }
node_effect w n (event.Deliver link number packet) =
    let e = of_packet w n.exchange packet in record e { first = air.Got number (sender w link) ∷ [] }

-- the node that an event is of
abbrev pub event_node : World → Cause → ℕ
event_node w (event.Planned line) = option_map_or (λ (l : PlannedLine). l.node) (slice_get w.plan line) 0
event_node w (event.Period node h) = node
event_node w (event.Fire node) = node
event_node w (event.Expire node) = node
event_node w (event.Pump node) = node
event_node w (event.Due node c inv value) = node
event_node w (event.Deliver link number packet) = receiver w link

-- the length of the Trickle interval that begins, if one does
abbrev pub begun_length : Node → NodeEffect → Option ℕ
begun_length n e = of_event e.timer where
  of_event : Option trickle.TimerEvent → Option ℕ
  of_event None = None
  of_event (Some t) = trickle.next_length n.timer.set n.timer.running.length t

-- an era begins: live invocations are cut
abbrev pub cuts : Deed → Bool
cuts (Installing p) = true
cuts Resetting = true
cuts _ = false

abbrev pub resets : Deed → Bool
resets Resetting = true
resets _ = false

-- something is marked to be sent
abbrev pub is_owing : World → List Happening → Bool
is_owing w hs = list_any (is_marked_slot hs) (slots_from (handlers w) 0)
