-- Every cause has its event: what follows from the rules of a run, said without what is pending.
use Rattle.std.specs.Prelude.{◌≡◌, ℕ, suc, ◌*◌, ◌<◌, false, ◌==◌, if◌then◌else◌, List, [], ◌∷◌, ◌++◌, ◌⊎◌, Some}
use Rattle.world_rules.specs.Cause.{Cause}
use Rattle.world_rules.specs.Cause as event
use Rattle.world_rules.specs.World.{World, handlers, handler_id, period_of}
use Rattle.world_rules.specs.Effect.{begun_length, event_node}
use Rattle.world_rules.specs.State.{Moment, of_time, node_at, effect_at, schedules, is_kept, is_some_length, world_start, state}
use Rattle.world_rules.specs.Run.{HaveCome, IsDone}

-- xs are some of ys, in the same order
abbrev pub IsSublist : {X : Type 0} → List X → List X → Type 0
IsSublist xs [] = xs ≡ []
IsSublist {X} xs (y ∷ ys) = IsSublist xs ys ⊎ ((rest : List X) × (xs ≡ y ∷ rest) × IsSublist rest ys)

-- the causes of the events at a time, in order
abbrev pub came_at : ℕ → List Moment → List Cause
came_at t [] = []
came_at t (m ∷ before) = came_at t before ++ (if m.time == t then m.cause ∷ [] else [])

-- what was ever scheduled for a time, in the order of the events that scheduled it
abbrev pub scheduled_for : World → ℕ → List Moment → List Cause
scheduled_for w t [] = (world_start w).due t
scheduled_for w t (m ∷ before) = scheduled_for w t before ++ of_time t (schedules w (state w before) m)

-- at one time the events are in the order in which they were scheduled, each once, and before those still due
abbrev pub ComeInOrder : World → Type 0
ComeInOrder w = (ms : List Moment) (t : ℕ) → HaveCome w ms → IsSublist (came_at t ms ++ (state w ms).due t) (scheduled_for w t ms)

-- among the events `later`, the cause has its event, at its time
pub record HasEvent (later : List Moment) (t : ℕ) (c : Cause) : Type 0 where
  pub moment : Moment
  pub newer : List Moment
  pub older : List Moment
  pub split : later ≡ newer ++ moment ∷ older
  pub cause : moment.cause ≡ c
  pub time : moment.time ≡ t

-- one of the events `later`, on top of `before`, cancels the cause
pub record IsCancelled (w : World) (before later : List Moment) (c : Cause) : Type 0 where
  pub moment : Moment
  pub newer : List Moment
  pub older : List Moment
  pub split : later ≡ newer ++ moment ∷ older
  pub cancels : is_kept (event_node w moment.cause) (effect_at w (state w (older ++ before)) moment)
      (is_some_length (begun_length (node_at w (state w (older ++ before)) moment) (effect_at w (state w (older ++ before)) moment))) c
      ≡ false

-- what is due at a time that the run reached has its event at that time, or is cancelled
abbrev pub EachComes : World → Type 0
EachComes w = (before later : List Moment) (t : ℕ) (c : Cause) → HaveCome w (later ++ before) → IsDone (state w (later ++ before)) t
    → (rest : List Cause) (front : List Cause) → (state w before).due t ≡ front ++ c ∷ rest
    → HasEvent later t c ⊎ IsCancelled w before later c

-- each multiple of a timer handler's period that the run reached has its event
abbrev pub PeriodsCome : World → Type 0
PeriodsCome w = (ms : List Moment) (node h period times : ℕ) → HaveCome w ms → node < w.nodes → h < handlers w → period_of w h ≡ Some period
    → IsDone (state w ms) (suc times * period) → HasEvent ms (suc times * period) (event.Period node (handler_id h))
