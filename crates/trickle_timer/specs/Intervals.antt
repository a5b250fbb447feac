-- The intervals of a node's Trickle timer (RFC 6206, section 4), from all that happened to it.
use Rattle.std.specs.Prelude.{ℕ, ◌+◌, ◌*◌, ◌/◌, ◌%◌, min, List, [], ◌∷◌, Bool, ◌&&◌, nat_lt, nat_le, if◌then◌else◌, Option, Some, None}
use Rattle.std.specs.Option.{option_map_or}
use Rattle.rand_pcg.specs.Lcg.{Lcg, started, increment_of, advance}
use Rattle.rand_pcg.specs.Pcg.{multiplier_64, pcg32}
use Rattle.vm_shape.specs.declared.settings.TrickleSet.{TrickleSet}
use Rattle.vm_shape.specs.Limits.{longest}
use Rattle.trickle_timer.specs.declared.timer.Fire.{Fire}
use Rattle.trickle_timer.specs.declared.timer.Fire.TheVariants.{Send, Keep}

-- an interval: when it begins and its length I, in ms, the moment of its point t, and how many consistent packets were
-- heard in it so far (c)
pub record Interval : Type 0 where
  pub begin : ℕ
  pub length : ℕ
  pub point : ℕ
  pub heard : ℕ

-- what happens to a timer: a consistent or an inconsistent packet is heard, it is reset as by an install, it begins
-- again as when its node starts, or its interval ends
pub data TimerEvent : Type 0 where
  Consistent : TimerEvent
  Inconsistent : TimerEvent
  Reset : TimerEvent
  Again : TimerEvent
  Expired : TimerEvent

pub record TimerHappening : Type 0 where
  pub event : TimerEvent
  pub time : ℕ

-- what a node's timer is started with
pub record Start : Type 0 where
  pub set : TrickleSet
  pub random : ℕ
  pub node : ℕ
  pub time : ℕ

-- the node's stream of words, and its word number n, from 0
abbrev pub stream : ℕ → ℕ → Lcg
stream random node = started 64 multiplier_64 random (increment_of 64 (2 * node))

abbrev pub lcg_word : Lcg → ℕ → ℕ
lcg_word words n = (pcg32 (advance 64 multiplier_64 n words)).0

-- the interval of this length that begins at this time; its point is in its second half, where the word puts it
abbrev pub interval : ℕ → ℕ → ℕ → Interval
interval length time w = record { begin = time; length = length; point = time + (length / 2 + w % (length / 2)); heard = 0 }

-- the shortest length, unless the interval has it already
abbrev pub shortened : TrickleSet → ℕ → Option ℕ
shortened set i = if nat_lt set.imin i then Some set.imin else None

-- the length of the interval that begins with the event, if one does; the running one has length i
abbrev pub next_length : TrickleSet → ℕ → TimerEvent → Option ℕ
next_length set i Consistent = None
next_length set i Inconsistent = shortened set i
next_length set i Reset = shortened set i
next_length set i Again = Some set.imin
next_length set i Expired = Some (min (2 * i) (longest set))

-- the packets heard in an interval in which the event happens
abbrev pub count : ℕ → TimerEvent → ℕ
count c Consistent = c + 1
count c Inconsistent = c
count c Reset = c
count c Again = c
count c Expired = c

-- the intervals from the running one on; it took the words before number n
abbrev pub intervals_from : TrickleSet → Lcg → ℕ → Interval → List TimerHappening → List Interval
intervals_from set words n i [] = i ∷ []
intervals_from set words n i (h ∷ later) =
    option_map_or
    (λ length. i ∷ intervals_from set words (n + 1) (interval length h.time (lcg_word words n)) later)
    (next_length set i.length h.event)
    (intervals_from set words n (record i { heard = count i.heard h.event }) later)

-- all intervals of a node, in order: each takes the next word
abbrev pub intervals : Start → List TimerHappening → List Interval
intervals s happened =
    let words = stream s.random s.node in
    intervals_from s.set words 1 (interval s.set.imin s.time (lcg_word words 0)) happened

-- what a node does at its interval's point: with suppression it is silent from k consistent packets on
abbrev pub at_point : TrickleSet → Interval → Bool → Fire
at_point set i suppress = if suppress && nat_le set.k i.heard then Keep else Send
