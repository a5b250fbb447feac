-- Why a node sends a packet, what its exchange looks back over, and what an install comes from.
use Rattle.std.specs.Prelude.{◌≡◌, ◌==◌, if◌then◌else◌, true, ℕ, ℤ, List, [], ◌∷◌, ◌++◌, Some, slice_get}
use Rattle.arrayvec.specs.ArrayVec.{ArrayVec}
use Rattle.mate_num.specs.declared.id.FunId.{FunId}
use Rattle.mate_journal.specs.Machine.{HeldProgram}
use Rattle.mate_journal.specs.Journal.{JournalEntry, Asked}
use Rattle.packet_codec.specs.declared.packet.Packet.{Packet}
use Rattle.packet_codec.specs.declared.packet.Packet.TheVariants.{Vector, App}
use Rattle.trickle_timer.specs.Intervals as trickle
use Rattle.trickle_timer.specs.declared.timer.Fire.TheVariants as fire
use Rattle.capsule_exchange.specs.Happenings.{Happening, Hears, held_versions, asks_after, completed_by, next_slot, fragment_for}
use Rattle.world_rules.specs.Cause as event
use Rattle.world_rules.specs.World.{World, PlannedLine, Inject, handlers, called_kind}
use Rattle.world_rules.specs.Effect.{Node, Installing, event_node, collected}
use Rattle.world_rules.specs.State.{Moment, WorldState, node_at, effect_at, packets_of, is_send_kind, state}

-- Why an event sends a packet: at a point that sends, the Vector of the held versions; on a packet that is heard, one of the
-- requests that the exchange makes; at a pump, the fragment of the next marked slot; and the message of a call
pub data SendsFor (w : World) (s : WorldState) (m : Moment) (p : Packet) : Type 0 where
  TellsVersions : (node : ℕ) → m.cause ≡ event.Fire node
      → trickle.at_point (node_at w s m).timer.set (node_at w s m).timer.running w.suppress ≡ fire.Send
      → p ≡ Vector (record { items = held_versions (handlers w) (node_at w s m).exchange }) → SendsFor w s m p
  AsksFor : (link number i : ℕ) (heard : Packet) → m.cause ≡ event.Deliver link number heard
      → slice_get (asks_after (handlers w) heard (node_at w s m).exchange) i ≡ Some p → SendsFor w s m p
  OwesFragment : (node slot : ℕ) → m.cause ≡ event.Pump node → next_slot (handlers w) (node_at w s m).exchange ≡ Some slot
      → p ≡ fragment_for (node_at w s m).exchange slot → SendsFor w s m p
  IsMessage : (front rest : List JournalEntry) (n : ℕ) (f : FunId) (args : ArrayVec ℤ) → m.told ≡ front ++ Asked n f args ∷ rest
      → is_send_kind (called_kind w f) ≡ true → p ≡ App args → SendsFor w s m p

-- each packet is sent for one of these
abbrev pub PacketsHaveReasons : World → Type 0
PacketsHaveReasons w = (s : WorldState) (m : Moment) (i : ℕ) (p : Packet) → slice_get (packets_of w s m) i ≡ Some p → SendsFor w s m p

-- what happened to a node's exchange, the latest first
abbrev pub exchange_happenings : World → ℕ → List Moment → List Happening
exchange_happenings w k [] = []
exchange_happenings w k (m ∷ before) = (if k == event_node w m.cause then (effect_at w (state w before) m).happened else [])
    ++ exchange_happenings w k before

-- a node looks back over all of it
abbrev pub ExchangesStand : World → Type 0
ExchangesStand w = (k : ℕ) (ms : List Moment) → ((state w ms).nodes k).exchange ≡ exchange_happenings w k ms

-- an install comes from a line, or from a packet that makes what was collected complete, and is then of just that
pub data InstallsBy (w : World) (n : Node) (m : Moment) (p : HeldProgram) : Type 0 where
  ByLine : (line : ℕ) (l : PlannedLine) → m.cause ≡ event.Planned line → slice_get w.plan line ≡ Some l → l.what ≡ Inject p
      → InstallsBy w n m p
  ByRadio : (link number : ℕ) (packet : Packet) → m.cause ≡ event.Deliver link number packet
      → completed_by packet n.exchange ≡ Some p.handler
      → p ≡ collected p.handler (Hears packet ∷ n.exchange) → InstallsBy w n m p

abbrev pub InstallsHaveReasons : World → Type 0
InstallsHaveReasons w = (s : WorldState) (m : Moment) (p : HeldProgram) → (effect_at w s m).deed ≡ Installing p
    → InstallsBy w (node_at w s m) m p
