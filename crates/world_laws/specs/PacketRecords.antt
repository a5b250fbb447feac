-- What the air's records say of packets, over whole runs: each is decided link by link, and nothing else is lost or arrives.
use Rattle.std.specs.Prelude.{◌≡◌, ℕ, ◌<◌, ◌≤◌, Bool, true, false, not, ◌&&◌, ◌||◌, IsTrue, List, [], ◌∷◌, ◌++◌, ◌⊎◌, map, length, Some}
use Rattle.std.specs.Prelude.{slice_get}
use Rattle.std.specs.List.{filter, flat_map, range_with_len}
use Rattle.mate_journal.specs.NodeScript.{RunEnd, Whole}
use Rattle.mate_journal.specs.declared.air.Air.{Air}
use Rattle.mate_journal.specs.declared.air.Air.TheVariants as air
use Rattle.mate_journal.specs.declared.air.Aired.{Aired}
use Rattle.packet_codec.specs.declared.packet.Packet.{Packet}
use Rattle.world_rules.specs.World.{World}
use Rattle.world_rules.specs.Effect.{event_node}
use Rattle.world_rules.specs.State.{Moment, sent_bytes, packets_of, state}
use Rattle.world_rules.specs.Run.{HaveCome, IsDone, IsAtEnd, stamp_of, airs}
use Rattle.world_laws.specs.Packets.{SendsFor}
use Rattle.world_laws.specs.Times.{last_time}
use Rattle.world_laws.specs.Transmissions.{Transmission, Arrival, transmissions, record_sent, records_lost, arrivals_at, brings_at}

-- packets are numbered from 1
abbrev pub PacketsAreNumbered : World → Type 0
PacketsAreNumbered w = (ms : List Moment) → map (λ (x : Transmission). x.number) (transmissions (airs w ms))
    ≡ range_with_len 1 (length (transmissions (airs w ms)))

-- ---- losses

abbrev pub is_lost_air : Air → Bool
is_lost_air (air.Interval length) = false
is_lost_air air.Keep = false
is_lost_air (air.Sent number bytes) = false
is_lost_air (air.Lost number to) = true
is_lost_air (air.Got number from) = false
is_lost_air (air.Noise bytes) = false

abbrev pub is_sent_air : Air → Bool
is_sent_air (air.Interval length) = false
is_sent_air air.Keep = false
is_sent_air (air.Sent number bytes) = true
is_sent_air (air.Lost number to) = false
is_sent_air (air.Got number from) = false
is_sent_air (air.Noise bytes) = false

-- a record is of a packet that is sent or lost
abbrev pub is_of_sending : Aired → Bool
is_of_sending r = is_sent_air r.air || is_lost_air r.air

-- of what is sent and lost, each packet is followed by exactly its losses in link order, and there is nothing else
abbrev pub PacketsAreDecided : World → Type 0
PacketsAreDecided w = (ms : List Moment) → filter is_of_sending (airs w ms)
    ≡ flat_map (λ x. record_sent x ∷ records_lost w x) (transmissions (airs w ms))

-- each loss is directly after its packet or another of its losses; `behind` says whether what is before the records is one of
-- these
abbrev pub losses_follow : Bool → List Aired → Bool
losses_follow behind [] = true
losses_follow behind (r ∷ rs) = (not (is_lost_air r.air) || behind) && losses_follow (is_of_sending r) rs

abbrev pub LossesFollowDirectly : World → Type 0
LossesFollowDirectly w = (ms : List Moment) → IsTrue (losses_follow false (airs w ms))

-- ---- arrivals

-- At each time there arrives, in order of transmission and then in link order, what the packets bring over the links that
-- don't lose them, each once, and nothing else; something is still on its way only if the run didn't reach the time.
pub record ArriveInOrder (w : World) (ms : List Moment) (t : ℕ) : Type 0 where
  pub due : List Arrival
  pub all : arrivals_at t (airs w ms) ++ due ≡ flat_map (brings_at w t) (transmissions (airs w ms))
  pub none_due : IsDone (state w ms) t → due ≡ []

abbrev pub PacketsArriveOnce : World → Type 0
PacketsArriveOnce w = (ms : List Moment) (t : ℕ) → HaveCome w ms → ArriveInOrder w ms t

-- the run reached the time: it is whole and the time is at most its end, or a later event came
abbrev pub HasReached : World → RunEnd → List Moment → ℕ → Type 0
HasReached w how ms t = ((how ≡ Whole) × (t ≤ w.until)) ⊎ (t < last_time ms)

-- all that was due by then has come
abbrev pub ReachedIsDone : World → Type 0
ReachedIsDone w = (how : RunEnd) (ms : List Moment) (t : ℕ) → HaveCome w ms → IsAtEnd w how (state w ms) → HasReached w how ms t
    → IsDone (state w ms) t

-- ---- reasons

-- one of these events sent the packet, for a reason
pub record WasSentFor (w : World) (ms : List Moment) (x : Transmission) : Type 0 where
  pub newer : List Moment
  pub moment : Moment
  pub older : List Moment
  pub split : ms ≡ newer ++ moment ∷ older
  pub at : x.at ≡ stamp_of moment older
  pub node : x.node ≡ event_node w moment.cause
  pub packet : Packet
  pub bytes : x.bytes ≡ sent_bytes w packet
  pub reason : SendsFor w (state w older) moment packet

abbrev pub SentHaveReasons : World → Type 0
SentHaveReasons w = (ms : List Moment) (i : ℕ) (x : Transmission) → slice_get (transmissions (airs w ms)) i ≡ Some x → WasSentFor w ms x

-- an event sends just its packets, in their order
abbrev pub EventsSendTheirs : World → Type 0
EventsSendTheirs w = (m : Moment) (before : List Moment)
    → map (λ (x : Transmission). x.bytes) (transmissions (airs w (m ∷ before)))
    ≡ map (λ (x : Transmission). x.bytes) (transmissions (airs w before)) ++ map (sent_bytes w) (packets_of w (state w before) m)
