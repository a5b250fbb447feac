-- The hop bound: an injected version reaches each node in time.
use Rattle.std.specs.Prelude.{◌≡◌, ℕ, ◌+◌, ◌*◌, ◌<◌, ◌≤◌, false, List, ◌∷◌, ◌++◌}
use Rattle.vm_shape.specs.Limits.{longest}
use Rattle.mate_journal.specs.Machine.{HeldProgram}
use Rattle.world_rules.specs.Cause.{Cause}
use Rattle.world_rules.specs.Cause as event
use Rattle.world_rules.specs.World.{World}
use Rattle.world_rules.specs.Effect.{event_node, resets}
use Rattle.world_rules.specs.State.{Moment, effect_at, state}
use Rattle.world_rules.specs.Run.{HaveCome, IsDone}
use Rattle.world_laws.specs.Hops.{IsAway}
use Rattle.world_laws.specs.Times.{last_time}
use Rattle.world_laws.specs.Newest.{Version, IsWorldVersion}
use Rattle.world_laws.specs.Spread.{HoldsVersion}
use Rattle.world_laws.specs.Versions.{InjectsAt, IsOneImage, AreVersionsRising}
use Rattle.world_laws.specs.Lines.{IsPlanTimely}

pub record IsRightPlan (w : World) : Type 0 where
  pub one_image : IsOneImage w
  pub timely : IsPlanTimely w
  pub rising : AreVersionsRising w

abbrev pub version_of : HeldProgram → Version
version_of p = record { handler = p.handler.0; version = p.version; image = p.image.items }

-- up to the time, none of the events `later`, on top of `before`, resets a node or injects a newer version for the handler
abbrev pub IsUndisturbed : World → HeldProgram → ℕ → List Moment → List Moment → Type 0
IsUndisturbed w p by before later = (newer older : List Moment) (x : Moment) → later ≡ newer ++ x ∷ older → x.time ≤ by
    → (resets (effect_at w (state w (older ++ before)) x).deed ≡ false)
    × ((j : ℕ) (q : HeldProgram) → x.cause ≡ event.Planned j → InjectsAt w j q → q.handler.0 ≡ p.handler.0 → q.version ≤ p.version)

-- some of the events `later` came by this time, and then the node holds the program's version
pub record HoldsBy (w : World) (p : HeldProgram) (b by : ℕ) (before later : List Moment) : Type 0 where
  pub newer : List Moment
  pub older : List Moment
  pub split : later ≡ newer ++ older
  pub in_time : last_time (older ++ before) ≤ by
  pub holds : HoldsVersion w (version_of p) b (older ++ before)

-- Let a program be injected on a node, and let b be d hops away. If the run reached the time 3 * L * d later, and no
-- newer one was injected and no node reset until then, b holds it by then.
abbrev pub HopBound : World → Type 0
HopBound w = (before later : List Moment) (m : Moment) (i b d : ℕ) (p : HeldProgram) → HaveCome w (later ++ (m ∷ before))
    → m.cause ≡ event.Planned i → InjectsAt w i p → IsWorldVersion w (version_of p)
    → event_node w m.cause < w.nodes → IsAway w.links (event_node w m.cause) b d
    → IsUndisturbed w p (m.time + 3 * longest w.description.trickle * d) (m ∷ before) later
    → IsDone (state w (later ++ (m ∷ before))) (m.time + 3 * longest w.description.trickle * d)
    → HoldsBy w p b (m.time + 3 * longest w.description.trickle * d) (m ∷ before) later
