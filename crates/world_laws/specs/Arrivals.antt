-- Each packet that a link doesn't lose arrives after the radio's delay, and nothing else arrives.
use Rattle.std.specs.Prelude.{◌≡◌, ℕ, ◌+◌, false, List, ◌∷◌, ◌++◌, Some, slice_get}
use Rattle.packet_codec.specs.declared.packet.Packet.{Packet}
use Rattle.world_rules.specs.Cause as event
use Rattle.world_rules.specs.World.{World, links_from}
use Rattle.world_rules.specs.Effect.{event_node}
use Rattle.world_rules.specs.State.{Moment, WorldState, Sending, sendings, packets_of, is_lost, state}
use Rattle.world_rules.specs.Run.{HaveCome, IsDone}
use Rattle.world_laws.specs.Causes.{HasEvent}

-- what the event sends, with numbers
abbrev pub sent_by : World → WorldState → Moment → List Sending
sent_by w s m = sendings w s (event_node w m.cause) (packets_of w s m)

-- over each link that leaves the sender and doesn't lose it, a packet arrives then
abbrev pub SentArrive : World → Type 0
SentArrive w = (before later : List Moment) (m : Moment) (i k j : ℕ) (x : Sending) → HaveCome w (later ++ (m ∷ before))
    → slice_get (sent_by w (state w before) m) i ≡ Some x → slice_get (links_from w (event_node w m.cause)) k ≡ Some j
    → is_lost w x j ≡ false
    → IsDone (state w (later ++ (m ∷ before))) (m.time + w.description.radio.delay)
    → HasEvent later (m.time + w.description.radio.delay) (event.Deliver j x.number x.packet)

-- where an arrival comes from
pub record WasSent (w : World) (ms : List Moment) (time j number : ℕ) (packet : Packet) : Type 0 where
  pub newer : List Moment
  pub moment : Moment
  pub older : List Moment
  pub split : ms ≡ newer ++ moment ∷ older
  pub before : ℕ
  pub place : ℕ
  pub sent : slice_get (sent_by w (state w older) moment) place ≡ Some (record { number = number; before = before; packet = packet })
  pub link : ℕ
  pub leaves_there : slice_get (links_from w (event_node w moment.cause)) link ≡ Some j
  pub not_lost : is_lost w (record { number = number; before = before; packet = packet }) j ≡ false
  pub in_time : time ≡ moment.time + w.description.radio.delay

-- and each arrival is of such a packet
abbrev pub ArrivalsWereSent : World → Type 0
ArrivalsWereSent w = (before : List Moment) (x : Moment) (j number : ℕ) (packet : Packet) → HaveCome w (x ∷ before)
    → x.cause ≡ event.Deliver j number packet → WasSent w before x.time j number packet
