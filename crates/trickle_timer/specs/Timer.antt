-- A timer as a value, one step of it, and how it sums up all that happened to its node.
use Rattle.std.specs.Prelude.{◌≡◌, ℕ, ◌+◌, ◌/◌, ◌<◌, ◌≤◌, min, List, [], ◌∷◌, ◌++◌, length, Bool, true, false, IsTrue}
use Rattle.std.specs.Option.{option_map_or}
use Rattle.mate_num.specs.declared.bounds.TheConstants.{HOUR}
use Rattle.rand_pcg.specs.Lcg.{Lcg, advance}
use Rattle.rand_pcg.specs.Pcg.{multiplier_64, pcg32}
use Rattle.vm_shape.specs.declared.settings.TrickleSet.{TrickleSet}
use Rattle.vm_shape.specs.Limits.{is_trickle, longest}
use Rattle.trickle_timer.specs.Intervals.{Interval, TimerHappening, TimerEvent, Consistent, Inconsistent, Start, stream, interval, next_length, count, intervals, at_point}
use Rattle.trickle_timer.specs.declared.timer.Fire.{Fire}

-- the settings, the running interval, whose count stops at 65,535, and the words that are left
pub record Timer : Type 0 where
  pub set : TrickleSet
  pub running : Interval
  pub words : Lcg

-- a timer with these settings whose next interval begins, with the next word
abbrev pub begun_timer : TrickleSet → Lcg → ℕ → ℕ → Timer
begun_timer set words length time =
    record { set = set; running = interval length time (pcg32 words).0; words = (pcg32 words).1 }

-- a timer of the node n
abbrev pub started_timer : Start → Timer
started_timer s = begun_timer s.set (stream s.random s.node) s.set.imin s.time

-- the interval with its count as the timer keeps it
abbrev pub counted : Interval → TimerEvent → Interval
counted i e = record i { heard = min (count i.heard e) 65535 }

-- the timer after it
abbrev pub after_happening : Timer → TimerHappening → Timer
after_happening t h =
    option_map_or
    (λ length. begun_timer t.set t.words length h.time)
    (next_length t.set t.running.length h.event)
    (record t { running = counted t.running h.event })

-- the event of a packet that is heard
abbrev pub packet_event : Bool → TimerEvent
packet_event true = Consistent
packet_event false = Inconsistent

-- the timer sums up all that happened since that start: its interval is the last of them
pub record IsTimerOf (s : Start) (happened : List TimerHappening) (t : Timer) : Type 0 where
  pub earlier : List Interval
  pub running : Interval
  pub all : intervals s happened ≡ earlier ++ running ∷ []
  pub shown : t ≡ record {
    set = s.set;
    running = record running { heard = min running.heard 65535 };
    words = advance 64 multiplier_64 (length earlier + 1) (stream s.random s.node);
  }

-- the new timer is the old one after the happening, and so it goes on to sum up all that happened
pub record TimerContinues (old new : Timer) (h : TimerHappening) : Type 0 where
  pub next : new ≡ after_happening old h
  pub stands : (s : Start) (happened : List TimerHappening) → IsTimerOf s happened old → IsTimerOf s (happened ++ h ∷ []) new

-- what a node does at its point is what the rule says of all that happened, though the timer's count stops
pub record Decides (t : Timer) (suppress : Bool) (fire : Fire) : Type 0 where
  pub value : fire ≡ at_point t.set t.running suppress
  pub stands : (s : Start) (happened : List TimerHappening) (held : IsTimerOf s happened t) → fire ≡ at_point s.set held.running suppress

-- what each timer keeps: its settings are in their ranges, its interval is between the shortest and the longest and
-- begins within the first hour, and the point lies in the second half of the interval
pub record IsRightTimer (t : Timer) : Type 0 where
  pub settings : IsTrue (is_trickle t.set)
  pub least : t.set.imin ≤ t.running.length
  pub most : t.running.length ≤ longest t.set
  pub hour : t.running.begin ≤ HOUR
  pub half : t.running.begin + t.running.length / 2 ≤ t.running.point
  pub before_end : t.running.point < t.running.begin + t.running.length
