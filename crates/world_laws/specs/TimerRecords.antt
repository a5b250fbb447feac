-- What the air's records say of timers, over whole runs: the beginnings of intervals, and what is done at their points.
use Rattle.std.specs.Prelude.{◌≡◌, ℕ, ◌+◌, ◌<◌, ◌==◌, if◌then◌else◌, List, [], ◌∷◌, ◌++◌, ◌⊎◌, map, Option, Some, None}
use Rattle.std.specs.List.{filter_map}
use Rattle.mate_journal.specs.declared.air.Air.{Air}
use Rattle.mate_journal.specs.declared.air.Air.TheVariants as air
use Rattle.mate_journal.specs.declared.air.Aired.{Aired}
use Rattle.trickle_timer.specs.Intervals as trickle
use Rattle.trickle_timer.specs.declared.timer.Fire.{Fire}
use Rattle.trickle_timer.specs.declared.timer.Fire.TheVariants as fire
use Rattle.world_rules.specs.Cause.{Cause}
use Rattle.world_rules.specs.Cause as event
use Rattle.world_rules.specs.World.{World}
use Rattle.world_rules.specs.Effect.{Node, begun_length, event_node}
use Rattle.world_rules.specs.State.{Moment, node_at, effect_at, state}
use Rattle.world_rules.specs.Run.{HaveCome, IsDone, airs}
use Rattle.world_laws.specs.Causes.{HasEvent, IsCancelled}
use Rattle.world_laws.specs.Timing.{timer_happenings, timer_start}

-- the beginning of an interval: when, and the interval's length, in ms
pub record Beginning : Type 0 where
  pub time : ℕ
  pub length : ℕ

-- the Interval records of a node
abbrev pub begun_by : ℕ → Aired → Option Beginning
begun_by k r = by r.air where
  by : Air → Option Beginning
  by (air.Interval length) = if r.node == k then Some (record { time = r.stamp.time; length = length }) else None
  by air.Keep = None
  by (air.Sent number bytes) = None
  by (air.Lost number to) = None
  by (air.Got number from) = None
  by (air.Noise bytes) = None

abbrev pub beginning_of : trickle.Interval → Beginning
beginning_of i = record { time = i.begin; length = i.length }

-- they are the beginnings of its timer's intervals, in order, each once
abbrev pub IntervalsAreTold : World → Type 0
IntervalsAreTold w = (ms : List Moment) (k : ℕ) → k < w.nodes
    → filter_map (begun_by k) (airs w ms) ≡ map beginning_of (trickle.intervals (timer_start w k) (timer_happenings w k ms))

-- ---- points

-- what is done at a point, and when
pub record PointDone : Type 0 where
  pub time : ℕ
  pub does : Fire

-- a packet whose first byte is 1 is a Vector
abbrev pub sent_as_vector : List ℕ → Option Fire
sent_as_vector [] = None
sent_as_vector (kind ∷ bytes) = if kind == 1 then Some fire.Send else None

abbrev pub done_then : ℕ → Option Fire → Option PointDone
done_then time None = None
done_then time (Some does) = Some (record { time = time; does = does })

-- what a record says a node did at a point: it kept its Vector, or sent it
abbrev pub point_told : ℕ → Aired → Option PointDone
point_told k r = if r.node == k then done_then r.stamp.time (by r.air) else None where
  by : Air → Option Fire
  by (air.Interval length) = None
  by air.Keep = Some fire.Keep
  by (air.Sent number bytes) = sent_as_vector bytes.items
  by (air.Lost number to) = None
  by (air.Got number from) = None
  by (air.Noise bytes) = None

-- what the rule decides at a point of the node, if the event is one
abbrev pub point_of : World → ℕ → Node → ℕ → Cause → List PointDone
point_of w k n time (event.Planned line) = []
point_of w k n time (event.Period node h) = []
point_of w k n time (event.Fire node) = if node == k
    then record { time = time; does = trickle.at_point n.timer.set n.timer.running w.suppress } ∷ [] else []
point_of w k n time (event.Expire node) = []
point_of w k n time (event.Pump node) = []
point_of w k n time (event.Due node c inv value) = []
point_of w k n time (event.Deliver link number packet) = []

abbrev pub points_of : World → ℕ → List Moment → List PointDone
points_of w k [] = []
points_of w k (m ∷ before) = points_of w k before ++ point_of w k ((state w before).nodes k) m.time m.cause

-- each point has a Keep or a Vector, as the rule decides, and there is no other Keep and no other Vector
abbrev pub PointsAreTold : World → Type 0
PointsAreTold w = (ms : List Moment) (k : ℕ) → filter_map (point_told k) (airs w ms) ≡ points_of w k ms

-- a point comes at its interval's point, and an end at its end
abbrev pub PointsAreTimely : World → Type 0
PointsAreTimely w = (before : List Moment) (m : Moment) (k : ℕ) → HaveCome w (m ∷ before) → m.cause ≡ event.Fire k
    → m.time ≡ ((state w before).nodes k).timer.running.point

abbrev pub EndsAreTimely : World → Type 0
EndsAreTimely w = (before : List Moment) (m : Moment) (k : ℕ) → HaveCome w (m ∷ before) → m.cause ≡ event.Expire k
    → m.time ≡ ((state w before).nodes k).timer.running.begin + ((state w before).nodes k).timer.running.length

-- an interval that runs after `before` comes to its point, and to its end, unless an event cancels it: one in which a new interval begins
pub record RunsItsCourse (w : World) (before later : List Moment) (k : ℕ) (i : trickle.Interval) : Type 0 where
  pub point : IsDone (state w (later ++ before)) i.point → HasEvent later i.point (event.Fire k) ⊎ IsCancelled w before later (event.Fire k)
  pub ends : IsDone (state w (later ++ before)) (i.begin + i.length) → HasEvent later (i.begin + i.length) (event.Expire k)
      ⊎ IsCancelled w before later (event.Expire k)

-- so does each node's first interval, and each that begins in an event
abbrev pub IntervalsRun : World → Type 0
IntervalsRun w = (before later : List Moment) (m : Moment) (l : ℕ) → HaveCome w (later ++ (m ∷ before))
    → begun_length (node_at w (state w before) m) (effect_at w (state w before) m) ≡ Some l
    → RunsItsCourse w (m ∷ before) later (event_node w m.cause) ((state w (m ∷ before)).nodes (event_node w m.cause)).timer.running

abbrev pub FirstIntervalsRun : World → Type 0
FirstIntervalsRun w = (ms : List Moment) (k : ℕ) → k < w.nodes → HaveCome w ms
    → RunsItsCourse w [] ms k ((state w []).nodes k).timer.running
