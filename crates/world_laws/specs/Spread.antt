-- How a version spreads: one hop, and many.
use Rattle.std.specs.Prelude.{◌≡◌, ℕ, ◌+◌, ◌*◌, ◌<◌, ◌≤◌, false, List, ◌++◌, Contains}
use Rattle.mate_num.specs.Lists.{EachOver}
use Rattle.vm_shape.specs.Limits.{longest, round_time}
use Rattle.mate_journal.specs.Machine.{HeldProgram}
use Rattle.capsule_exchange.specs.Happenings.{held_version}
use Rattle.world_rules.specs.Cause as event
use Rattle.script_steps.specs.declared.world.Link.{Link}
use Rattle.world_rules.specs.World.{World, handlers, loss}
use Rattle.world_rules.specs.Effect.{Installing, resets}
use Rattle.world_rules.specs.State.{Moment, WorldState, effect_at, state}
use Rattle.world_rules.specs.Run.{HaveCome, IsDone}
use Rattle.world_laws.specs.Hops.{HasLink, IsAway}
use Rattle.world_laws.specs.Newest.{Version, IsNewest}
use Rattle.world_laws.specs.Times.{IsRightSet, last_time}

-- suppression is off, nothing is lost, and a round of all fragments fits into the longest interval
pub record IsOpenWorld (w : World) : Type 0 where
  pub set : IsRightSet w.description.trickle
  pub loud : w.suppress ≡ false
  pub lossless : (j : ℕ) → loss w j ≡ 0
  pub ends : (l : Link) → Contains w.links l → (l.from < w.nodes) × (l.to < w.nodes)
  pub round : round_time (handlers w) w.description.radio ≤ longest w.description.trickle

-- the event neither resets a node nor injects a program for the handler
pub record IsQuiet (w : World) (h : ℕ) (s : WorldState) (m : Moment) : Type 0 where
  pub no_reset : resets (effect_at w s m).deed ≡ false
  pub no_inject : (line : ℕ) (p : HeldProgram) → m.cause ≡ event.Planned line → (effect_at w s m).deed ≡ Installing p → p.handler.0 ≡ h → ⊥

abbrev pub AreQuiet : World → ℕ → List Moment → List Moment → Type 0
AreQuiet w h before = EachOver (λ m later. IsQuiet w h (state w (later ++ before)) m)

abbrev pub HoldsVersion : World → Version → ℕ → List Moment → Type 0
HoldsVersion w v k ms = held_version v.handler ((state w ms).nodes k).exchange ≡ v.version

-- one hop takes at most three times the longest interval
abbrev pub HopsInTime : World → Version → Type 0
HopsInTime w v = (a b time : ℕ) (before later : List Moment) → a < w.nodes → HasLink w.links a b → HasLink w.links b a
    → HaveCome w (later ++ before) → IsNewest w v (later ++ before) → AreQuiet w v.handler before later → last_time before ≤ time
    → IsDone (state w (later ++ before)) (time + 3 * longest w.description.trickle) → HoldsVersion w v a before
    → HoldsVersion w v b (later ++ before)

-- d hops take d times as long
abbrev pub SpreadsInTime : World → Version → Type 0
SpreadsInTime w v = (a b d time : ℕ) (before later : List Moment) → a < w.nodes → IsAway w.links a b d
    → HaveCome w (later ++ before) → IsNewest w v (later ++ before) → AreQuiet w v.handler before later → last_time before ≤ time
    → IsDone (state w (later ++ before)) (time + 3 * longest w.description.trickle * d) → HoldsVersion w v a before
    → HoldsVersion w v b (later ++ before)
