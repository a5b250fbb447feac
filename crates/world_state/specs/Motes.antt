-- What the calls of a node with its timer and its exchange do.
use Rattle.std.specs.Prelude.{◌≡◌, ℕ, ◌<◌, ◌≤◌, Bool, true, false, List, [], ◌∷◌, length, bytes_eq, Option, Some, None, ◌⊎◌}
use Rattle.mate_num.specs.declared.call.Stamp.{Stamp}
use Rattle.mate_num.specs.declared.id.HandlerId.{HandlerId}
use Rattle.mate_journal.specs.Log.{IsEmpty}
use Rattle.mate_journal.specs.Journal.{JournalEntry}
use Rattle.mate_journal.specs.Pace.{Pace, no_pace}
use Rattle.mate_journal.specs.NodeScript.{Resets}
use Rattle.mate_journal.specs.OpenLog.{nothing_gone}
use Rattle.mate_journal.specs.declared.air.Air.{Air}
use Rattle.mate_journal.specs.declared.air.Air.TheVariants as air
use Rattle.node_state.specs.Meaning.{machine_in}
use Rattle.node_state.specs.Keeps.{IsTimely}
use Rattle.node_calls.specs.Installing.{InstallsBytes, Refuses}
use Rattle.node_calls.specs.declared.installing.InstallFault.{InstallFault}
use Rattle.node_open.specs.View.{NodeView, heard_of, HasPace, Tells, IsSameNode}
use Rattle.node_open.specs.Calls.{Pacing}
use Rattle.packet_codec.specs.declared.packet.Packet.{Packet}
use Rattle.packet_codec.specs.declared.packet.Packet.TheVariants.{Vector}
use Rattle.trickle_timer.specs.Intervals as trickle
use Rattle.trickle_timer.specs.Timer.{Timer, after_happening, packet_event, started_timer}
use Rattle.trickle_timer.specs.declared.timer.Fire.{Fire}
use Rattle.trickle_timer.specs.declared.timer.Fire.TheVariants as fire
use Rattle.capsule_exchange.specs.Happenings.{Happening, Hears, Installs, Forgets, held_versions, asks_after, next_slot, fragment_for}
use Rattle.capsule_exchange.specs.Knowledge.{knowledge, held_of, Learns, with_sent}
use Rattle.vm_shape.specs.declared.description.Description.{Description}
use Rattle.world_rules.specs.World.{World}
use Rattle.world_rules.specs.State.{is_some_length}
use Rattle.world_air.specs.Calls.{AreCallsOf}
use Rattle.world_state.specs.declared.effect.Effect.{Effect}
use Rattle.world_state.specs.declared.mote.Mote.{Mote}

-- ---- at the start

-- nothing is installed, recorded, held or called, and the first interval runs
pub record BeginsMote (d : Description) (random node : ℕ) (m : Mote) : Type 0 where
  pub description : m.node.description ≡ d
  pub empty : IsEmpty m.node.log
  pub gone : m.node.gone ≡ nothing_gone
  pub pace : HasPace m.node no_pace
  pub timer : m.timer ≡ started_timer (record { set = d.trickle; random = random; node = node; time = 0 })
  pub exchange : m.exchange ≡ knowledge (length d.handlers.items) []
  pub pumps : m.pumps ≡ false
  pub calls : (w : World) → w.description ≡ d → w.random ≡ random → AreCallsOf w node [] m.calls

-- ---- before an event

-- an event of this stamp can be recorded on the node
pub record IsTellable (v : NodeView) (at : Stamp) : Type 0 where
  pub timely : IsTimely at v.log
  pub few : length v.log.entries < 4000000000

-- ---- what an event does beyond its node's journal

abbrev pub plain_effect : Effect
plain_effect = record { first = None; begins = false; cuts = false; resets = false; sends = record { items = [] } }

-- this is recorded first
abbrev pub noting : Air → Effect
noting a = record plain_effect { first = Some a }

-- the packet is sent
abbrev pub sending_one : Packet → Effect
sending_one p = record plain_effect { sends = record { items = p ∷ [] } }

-- ---- what is recorded

-- the node records this, and the rest stays as it is
pub record TellsAlone (at : Stamp) (Rule : Pace → List JournalEntry → Pace → Type 0) (old new : Mote) : Type 0 where
  pub tells : Tells old.node new.node at Rule
  pub same : new ≡ record old { node = new.node }

-- the timer after something happened to it, and whether an interval begins with it
abbrev pub timed : Timer → ℕ → trickle.TimerEvent → Timer
timed t time e = after_happening t (record { event = e; time = time })

abbrev pub begins_with : Timer → trickle.TimerEvent → Bool
begins_with t e = is_some_length (trickle.next_length t.set t.running.length e)

-- the node is reset: what its exchange collected and owed is forgotten, and its shortest interval begins
pub record ResetsMote (at : Stamp) (old new : Mote) (r : Effect) : Type 0 where
  pub tells : Tells old.node new.node at
      (Pacing (Resets (machine_in old.node.description) (heard_of old.node)))
  pub timer : new.timer ≡ timed old.timer at.time trickle.Again
  pub exchange : Learns old.exchange Forgets new.exchange
  pub pumps : new.pumps ≡ false
  pub calls : new.calls ≡ old.calls
  pub effect : r ≡ record plain_effect { begins = true; cuts = true; resets = true }

-- the image is installed for the handler, as its version: by what its bytes say, and by the exchange
pub record InstallsImage (at : Stamp) (h : HandlerId) (version : ℕ) (image : List ℕ) (old new : Mote) (r : Effect) : Type 0 where
  pub tells : Tells old.node new.node at (Pacing (InstallsBytes old.node.description (heard_of old.node) image))
  pub timer : new.timer ≡ timed old.timer at.time trickle.Reset
  pub exchange : Learns old.exchange (Installs h.0 version image) new.exchange
  pub pumps : new.pumps ≡ old.pumps
  pub calls : new.calls ≡ old.calls
  pub effect : r ≡ record plain_effect { begins = begins_with old.timer trickle.Reset; cuts = true }

-- the image isn't newer than what the exchange holds, is empty, or is refused by the node
abbrev pub IsNotInstalled : HandlerId → ℕ → List ℕ → Mote → Type 0
IsNotInstalled h version image m =
    (version ≤ held_of m.exchange h) ⊎ (image ≡ []) ⊎ ((fault : InstallFault) × Refuses m.node.description (heard_of m.node) image fault)

-- then nothing is done
pub record LeavesImage (h : HandlerId) (version : ℕ) (image : List ℕ) (old new : Mote) (r : Effect) : Type 0 where
  pub why : IsNotInstalled h version image old
  pub node : IsSameNode old.node new.node
  pub same : new ≡ record old { node = new.node }
  pub effect : r ≡ plain_effect

-- ---- points, ends and pumps

-- at a point the versions are sent, or nothing is
abbrev pub at_fire : List ℕ → Fire → Effect
at_fire versions fire.Send = sending_one (Vector (record { items = versions }))
at_fire versions fire.Keep = noting air.Keep

-- the fragment of the next slot that is owed, if one is
abbrev pub of_owed : List Happening → Option ℕ → Effect
of_owed before None = plain_effect
of_owed before (Some slot) = sending_one (fragment_for before slot)

pub record PumpsMote (n : ℕ) (before : List Happening) (old new : Mote) (r : Effect) : Type 0 where
  pub exchange : new.exchange ≡ knowledge n (with_sent (next_slot n before) before)
  pub same : new ≡ record old { exchange = new.exchange; pumps = false }
  pub effect : r ≡ of_owed before (next_slot n before)

-- ---- packets

-- the timer after a Vector that is consistent or not; what is no Vector does nothing to it
abbrev pub counted_timer : Timer → ℕ → Option Bool → Timer
counted_timer t time None = t
counted_timer t time (Some consistent) = timed t time (packet_event consistent)

abbrev pub begins_counted : Timer → Option Bool → Bool
begins_counted t None = false
begins_counted t (Some consistent) = begins_with t (packet_event consistent)

-- a Vector counts for the timer, and is answered
pub record HearsVector (at : Stamp) (versions : List ℕ) (n : ℕ) (before : List Happening) (old new : Mote) (r : Effect) : Type 0 where
  pub timer : new.timer ≡ timed old.timer at.time (packet_event (bytes_eq versions (held_versions n before)))
  pub exchange : new.exchange ≡ knowledge n (Hears (Vector (record { items = versions })) ∷ before)
  pub same : new ≡ record old { timer = new.timer; exchange = new.exchange }
  pub effect : r ≡ record plain_effect {
    begins = begins_with old.timer (packet_event (bytes_eq versions (held_versions n before)));
    sends = record { items = asks_after n (Vector (record { items = versions })) before };
  }
