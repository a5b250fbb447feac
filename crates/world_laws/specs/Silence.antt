-- A node that keeps silent at its point has heard its own versions in that interval, from a node that held them.
use Rattle.std.specs.Prelude.{◌≡◌, ℕ, ◌+◌, ◌<◌, ◌≤◌, List, ◌∷◌, ◌++◌, slice_index}
use Rattle.mate_num.specs.Lists.{Among}
use Rattle.arrayvec.specs.ArrayVec.{ArrayVec}
use Rattle.packet_codec.specs.declared.packet.Packet.TheVariants.{Vector}
use Rattle.trickle_timer.specs.Intervals as trickle
use Rattle.trickle_timer.specs.declared.timer.Fire.TheVariants as fire
use Rattle.capsule_exchange.specs.Happenings.{Hears, held_version, held_versions, ask_for}
use Rattle.world_rules.specs.Cause as event
use Rattle.world_rules.specs.World.{World, handlers, receiver, links_from}
use Rattle.world_rules.specs.State.{Moment, WorldState, node_at, packets_of, state}
use Rattle.world_rules.specs.Run.{HaveCome}

-- one of these events, at this time or later, is a Vector that the node hears, and that names just the versions that it holds
pub record HeardItsOwn (w : World) (ms : List Moment) (k since : ℕ) : Type 0 where
  pub newer : List Moment
  pub moment : Moment
  pub older : List Moment
  pub split : ms ≡ newer ++ moment ∷ older
  pub link : ℕ
  pub number : ℕ
  pub versions : ArrayVec ℕ
  pub cause : moment.cause ≡ event.Deliver link number (Vector versions)
  pub to : receiver w link ≡ k
  pub own : versions.items ≡ held_versions (handlers w) ((state w older).nodes k).exchange
  pub since_then : since ≤ moment.time

-- where a node counted one packet at least as consistent, and so where it keeps silent, since the constant isn't 0
abbrev pub CountedIsHeard : World → Type 0
CountedIsHeard w = (ms : List Moment) (k : ℕ) → k < w.nodes → HaveCome w ms → 1 ≤ ((state w ms).nodes k).timer.running.heard
    → HeardItsOwn w ms k ((state w ms).nodes k).timer.running.begin

abbrev pub SilentHeardTheirOwn : World → Type 0
SilentHeardTheirOwn w = (ms : List Moment) (k : ℕ) → k < w.nodes → HaveCome w ms → 1 ≤ w.description.trickle.k
    → trickle.at_point ((state w ms).nodes k).timer.set ((state w ms).nodes k).timer.running w.suppress ≡ fire.Keep
    → HeardItsOwn w ms k ((state w ms).nodes k).timer.running.begin

-- one of these events is a point of a node that held just these versions, and sent them over the link, so that they arrive at this time
pub record WasToldBy (w : World) (ms : List Moment) (time link : ℕ) (versions : ArrayVec ℕ) : Type 0 where
  pub newer : List Moment
  pub moment : Moment
  pub older : List Moment
  pub split : ms ≡ newer ++ moment ∷ older
  pub holder : ℕ
  pub cause : moment.cause ≡ event.Fire holder
  pub sends : trickle.at_point ((state w older).nodes holder).timer.set ((state w older).nodes holder).timer.running w.suppress ≡ fire.Send
  pub leaves_there : Among link (links_from w holder)
  pub own : versions.items ≡ held_versions (handlers w) ((state w older).nodes holder).exchange
  pub in_time : time ≡ moment.time + w.description.radio.delay

-- each Vector that is heard came from a point of a node that held just the versions that it names
abbrev pub VectorsComeFromHolders : World → Type 0
VectorsComeFromHolders w = (before : List Moment) (x : Moment) (link number : ℕ) (versions : ArrayVec ℕ) → HaveCome w (x ∷ before)
    → x.cause ≡ event.Deliver link number (Vector versions) → WasToldBy w before x.time link versions

-- and whoever hears it asks for each version in it that is newer than its own
abbrev pub HearersAsk : World → Type 0
HearersAsk w = (s : WorldState) (x : Moment) (link number h : ℕ) (versions : ArrayVec ℕ) → x.cause ≡ event.Deliver link number (Vector versions)
    → h < handlers w → held_version h (node_at w s x).exchange < slice_index versions.items h
    → Among (ask_for (Hears (Vector versions) ∷ (node_at w s x).exchange) h) (packets_of w s x)
