-- How a version passes over one pair of links, whatever happens elsewhere; and so along a path.
use Rattle.std.specs.Prelude.{◌≡◌, ℕ, ◌+◌, ◌*◌, ◌<◌, ◌≤◌, nat_le, false, if◌then◌else◌, List, [], ◌∷◌, ◌++◌, ◌⊎◌}
use Rattle.mate_num.specs.Lists.{Among}
use Rattle.vm_shape.specs.Limits.{longest, round_time}
use Rattle.mate_journal.specs.Machine.{HeldProgram}
use Rattle.packet_codec.specs.declared.packet.Packet.{Packet}
use Rattle.trickle_timer.specs.Intervals as trickle
use Rattle.trickle_timer.specs.declared.timer.Fire.TheVariants as fire
use Rattle.capsule_exchange.specs.Happenings.{held_version, target_version, version_in}
use Rattle.world_rules.specs.Cause as event
use Rattle.world_rules.specs.World.{World, handlers, receiver, links_from}
use Rattle.world_rules.specs.Effect.{event_node, resets}
use Rattle.world_rules.specs.State.{Moment, WorldState, Sending, effect_at, is_lost, state}
use Rattle.world_rules.specs.Run.{HaveCome, IsDone}
use Rattle.world_laws.specs.Arrivals.{sent_by}
use Rattle.world_laws.specs.Newest.{IsWorldVersion}
use Rattle.world_laws.specs.Slots.{IsSparing}
use Rattle.world_laws.specs.Times.{IsRightSet}
use Rattle.world_laws.specs.Versions.{InjectsAt}
use Rattle.world_laws.specs.HopBound.{IsRightPlan, version_of}

-- a pair of links, by their positions: one from a node to another, and one back
pub record Hop : Type 0 where
  pub from : ℕ
  pub to : ℕ
  pub there : ℕ
  pub back : ℕ

pub record IsHop (w : World) (x : Hop) : Type 0 where
  pub from_low : x.from < w.nodes
  pub leaves_from : Among x.there (links_from w x.from)
  pub gets_there : receiver w x.there ≡ x.to
  pub leaves_to : Among x.back (links_from w x.to)
  pub gets_back : receiver w x.back ≡ x.from

-- the link loses no packet of the event
abbrev pub LosesNone : World → ℕ → WorldState → Moment → Type 0
LosesNone w j s m = (y : Sending) → Among y (sent_by w s m) → is_lost w y j ≡ false

-- The event lets version `most` of the handler pass. If it is of the sender, it neither resets it nor installs the handler
-- there, and the link loses none of its packets. If it is of the receiver, it doesn't reset it, it isn't a packet that names
-- a newer version of the handler, and the link back loses none of its packets. Of other nodes nothing is asked.
pub record LetsPass (w : World) (x : Hop) (h most : ℕ) (s : WorldState) (m : Moment) : Type 0 where
  pub spares : IsSparing w s m x.from h
  pub there : event_node w m.cause ≡ x.from → LosesNone w x.there s m
  pub no_reset : event_node w m.cause ≡ x.to → resets (effect_at w s m).deed ≡ false
  pub none_newer : event_node w m.cause ≡ x.to → (j number : ℕ) (p : Packet) → m.cause ≡ event.Deliver j number p → version_in h p ≤ most
  pub back : event_node w m.cause ≡ x.to → LosesNone w x.back s m

-- the events of a run up to a time
abbrev pub up_to : ℕ → List Moment → List Moment
up_to t [] = []
up_to t (m ∷ before) = if nat_le m.time t then m ∷ before else up_to t before

-- the version of the handler that a node holds after all events up to a time
abbrev pub version_at : World → List Moment → ℕ → ℕ → ℕ → ℕ
version_at w ms k h t = held_version h ((state w (up_to t ms)).nodes k).exchange

-- the event comes after one time and at another at the latest, on top of the events `older`
pub record IsBetween (ms : List Moment) (start by : ℕ) (m : Moment) (older : List Moment) : Type 0 where
  pub newer : List Moment
  pub split : ms ≡ newer ++ m ∷ older
  pub after : start < m.time
  pub in_time : m.time ≤ by

-- a point of the node comes between these times, and sends its Vector
pub record IsHeardBetween (w : World) (ms : List Moment) (k start by : ℕ) : Type 0 where
  pub moment : Moment
  pub older : List Moment
  pub between : IsBetween ms start by moment older
  pub cause : moment.cause ≡ event.Fire k
  pub sends : trickle.at_point ((state w older).nodes k).timer.set ((state w older).nodes k).timer.running w.suppress ≡ fire.Send

-- A window of a hop is open from one time on and up to another: all events in it let the version pass that the sender holds at
-- its start; the receiver aims at nothing newer then; and the sender's Vector is heard one longest interval before its end,
-- as it is in each window of three longest intervals where suppression is off.
pub record IsOpenWindow (w : World) (ms : List Moment) (h : ℕ) (x : Hop) (start by : ℕ) : Type 0 where
  pub passes : (m : Moment) (older : List Moment) → IsBetween ms start by m older → LetsPass w x h (version_at w ms x.from h start) (state w older) m
  pub aims : target_version h ((state w (up_to start ms)).nodes x.to).exchange ≤ version_at w ms x.from h start
  pub heard : ((w.suppress ≡ false) × (start + 3 * longest w.description.trickle ≤ by))
      ⊎ ((until : ℕ) × (until + longest w.description.trickle ≤ by) × IsHeardBetween w ms x.from start until)

-- ---- paths

-- a hop, how long its window is waited for, and how long that is open
pub record Leg : Type 0 where
  pub hop : Hop
  pub wait : ℕ
  pub lasts : ℕ

-- when the last window ends, if the first is waited for from time t on: the waits and the windows together
abbrev pub path_end : List Leg → ℕ → ℕ
path_end [] t = t
path_end (x ∷ xs) t = path_end xs (t + x.wait + x.lasts)

-- the hops lead from a to b, one after the other
abbrev pub LeadTo : World → ℕ → ℕ → List Leg → Type 0
LeadTo w a b [] = a ≡ b
LeadTo w a b (x ∷ xs) = (x.hop.from ≡ a) × IsHop w x.hop × LeadTo w x.hop.to b xs

-- each hop has an open window, after its wait
abbrev pub HaveWindows : World → List Moment → ℕ → List Leg → ℕ → Type 0
HaveWindows w ms h [] t = Unit {0}
HaveWindows w ms h (x ∷ xs) t = IsOpenWindow w ms h x.hop (t + x.wait) (t + x.wait + x.lasts)
    × HaveWindows w ms h xs (t + x.wait + x.lasts)

-- the timer's settings are right, a round of all fragments fits into the longest interval, and lines inject rising versions
-- of handlers of the machine, each with one image of 1 to `FRAGMENTS_MAX` fragments
pub record IsRightNetwork (w : World) : Type 0 where
  pub set : IsRightSet w.description.trickle
  pub round : round_time (handlers w) w.description.radio ≤ longest w.description.trickle
  pub plan : IsRightPlan w
  pub versions : (i : ℕ) (p : HeldProgram) → InjectsAt w i p → IsWorldVersion w (version_of p)

-- what a node holds at a window's start its neighbour holds at the window's end, or something newer
abbrev pub WindowsPass : World → Type 0
WindowsPass w = (ms : List Moment) (h : ℕ) (x : Hop) (start by : ℕ) → HaveCome w ms → IsHop w x → start ≤ by
    → IsOpenWindow w ms h x start by → IsDone (state w ms) by → version_at w ms x.from h start ≤ version_at w ms x.to h by

-- what a path's first node holds its last one holds at the end of the last window, or something newer
abbrev pub PathsPass : World → Type 0
PathsPass w = (ms : List Moment) (h a b t : ℕ) (xs : List Leg) → HaveCome w ms → LeadTo w a b xs → HaveWindows w ms h xs t
    → IsDone (state w ms) (path_end xs t) → version_at w ms a h t ≤ version_at w ms b h (path_end xs t)

-- what a line injects on a node the end of a path from there holds at the end of its last window, or something newer
abbrev pub InjectionsPass : World → Type 0
InjectionsPass w = (newer before : List Moment) (m : Moment) (i b : ℕ) (p : HeldProgram) (xs : List Leg) → HaveCome w (newer ++ m ∷ before)
    → m.cause ≡ event.Planned i → InjectsAt w i p → LeadTo w (event_node w m.cause) b xs
    → HaveWindows w (newer ++ m ∷ before) p.handler.0 xs m.time → IsDone (state w (newer ++ m ∷ before)) (path_end xs m.time)
    → p.version ≤ version_at w (newer ++ m ∷ before) b p.handler.0 (path_end xs m.time)
