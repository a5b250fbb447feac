-- When things happen in a world.
use Rattle.std.specs.Prelude.{◌≡◌, ℕ, ◌+◌, ◌*◌, ◌<◌, ◌≤◌, false, List, [], ◌∷◌, ◌++◌}
use Rattle.mate_num.specs.Lists.{EachOver}
use Rattle.vm_shape.specs.declared.settings.TrickleSet.{TrickleSet}
use Rattle.vm_shape.specs.Limits.{longest}
use Rattle.world_rules.specs.Cause as event
use Rattle.world_rules.specs.World.{World}
use Rattle.world_rules.specs.Effect.{event_node, resets}
use Rattle.world_rules.specs.State.{Moment, effect_at, state}
use Rattle.world_rules.specs.Run.{HaveCome, IsDone}

-- the shortest interval is even and at least 2; the longest is a multiple of it
pub record IsRightSet (t : TrickleSet) : Type 0 where
  pub low : 2 ≤ t.imin
  pub most : t.imin ≤ longest t
  pub twice : t.imin < longest t → 2 * t.imin ≤ longest t
  pub half : ℕ
  pub even : longest t ≡ 2 * half

-- the time of the last event, 0 before the first
abbrev pub last_time : List Moment → ℕ
last_time [] = 0
last_time (m ∷ before) = m.time

-- among the events `later`, which came on top of `before`, is m: those newer than it, and those older
pub record StandsIn (later : List Moment) (m : Moment) : Type 0 where
  pub newer : List Moment
  pub older : List Moment
  pub split : later ≡ newer ++ m ∷ older

-- none of the events `later`, on top of `before`, resets the node
abbrev pub NeverResets : World → ℕ → List Moment → List Moment → Type 0
NeverResets w i before = EachOver (λ m later. event_node w m.cause ≡ i → resets (effect_at w (state w (later ++ before)) m).deed ≡ false)

-- a point of the node's timer comes, at this time at the latest
pub record Fires (i : ℕ) (by : ℕ) (later : List Moment) : Type 0 where
  pub moment : Moment
  pub among : StandsIn later moment
  pub cause : moment.cause ≡ event.Fire i
  pub in_time : moment.time ≤ by

-- whenever: a node that isn't reset comes to a point within twice the longest interval
abbrev pub FiresInTime : World → Type 0
FiresInTime w = (i time : ℕ) (before later : List Moment) → i < w.nodes → HaveCome w (later ++ before) → last_time before ≤ time
    → NeverResets w i before later → IsDone (state w (later ++ before)) (time + 2 * longest w.description.trickle)
    → Fires i (time + 2 * longest w.description.trickle) later
