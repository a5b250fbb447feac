-- A node's intervals are those of the timer's rules over all that happened to it, and its points decide by them.
use Rattle.std.specs.Prelude.{ℕ, ◌==◌, if◌then◌else◌, List, [], ◌∷◌, ◌++◌, Option, Some, None}
use Rattle.trickle_timer.specs.Intervals as trickle
use Rattle.trickle_timer.specs.Timer.{IsTimerOf, Decides}
use Rattle.world_rules.specs.World.{World}
use Rattle.world_rules.specs.Effect.{event_node}
use Rattle.world_rules.specs.State.{Moment, effect_at, state}

-- what an event does to a timer, and when
abbrev pub timed_happening : ℕ → Option trickle.TimerEvent → List trickle.TimerHappening
timed_happening time None = []
timed_happening time (Some e) = record { event = e; time = time } ∷ []

-- all that happened to a node's timer, in order
abbrev pub timer_happenings : World → ℕ → List Moment → List trickle.TimerHappening
timer_happenings w k [] = []
timer_happenings w k (m ∷ before) = timer_happenings w k before
    ++ (if k == event_node w m.cause then timed_happening m.time (effect_at w (state w before) m).timer else [])

abbrev pub timer_start : World → ℕ → trickle.Start
timer_start w k = record { set = w.description.trickle; random = w.random; node = k; time = 0 }

abbrev pub TimersStand : World → Type 0
TimersStand w = (k : ℕ) (ms : List Moment) → IsTimerOf (timer_start w k) (timer_happenings w k ms) ((state w ms).nodes k).timer

-- what a node's point does is what the rule says of all that happened
abbrev pub PointsDecide : World → Type 0
PointsDecide w = (k : ℕ) (ms : List Moment)
    → Decides ((state w ms).nodes k).timer w.suppress (trickle.at_point ((state w ms).nodes k).timer.set
    ((state w ms).nodes k).timer.running w.suppress)
