-- When a node sends the fragments that it was asked for.
use Rattle.std.specs.Prelude.{◌≡◌, ℕ, ◌+◌, ◌*◌, ◌/◌, ◌<◌, ◌≤◌, false, IsTrue, List, ◌∷◌, ◌++◌, Some}
use Rattle.mate_num.specs.declared.bounds.TheConstants.{FRAGMENTS_MAX}
use Rattle.mate_num.specs.Lists.{EachOver}
use Rattle.capsule_exchange.specs.Happenings.{next_slot, is_marked_slot}
use Rattle.world_rules.specs.Cause as event
use Rattle.world_rules.specs.World.{World, handlers}
use Rattle.world_rules.specs.Effect.{Installing, event_node, resets}
use Rattle.world_rules.specs.State.{Moment, WorldState, effect_at, state}
use Rattle.world_rules.specs.Run.{HaveCome, IsDone}
use Rattle.world_laws.specs.Times.{last_time}

-- the event leaves the node's fragments of the handler h alone: it neither resets the node nor installs h on it
pub record IsSparing (w : World) (s : WorldState) (m : Moment) (i h : ℕ) : Type 0 where
  pub no_reset : event_node w m.cause ≡ i → resets (effect_at w s m).deed ≡ false
  pub no_install : (p : _) → event_node w m.cause ≡ i → (effect_at w s m).deed ≡ Installing p → p.handler.0 ≡ h → ⊥

abbrev pub AreSparing : World → ℕ → ℕ → List Moment → List Moment → Type 0
AreSparing w i h before = EachOver (λ m later. IsSparing w (state w (later ++ before)) m i h)

-- among the events `later`, on top of `before`, a pump of the node sends the slot, at this time at the latest
pub record SendsSlot (w : World) (i slot by : ℕ) (before later : List Moment) : Type 0 where
  pub moment : Moment
  pub newer : List Moment
  pub older : List Moment
  pub split : later ≡ newer ++ moment ∷ older
  pub cause : moment.cause ≡ event.Pump i
  pub sends : next_slot (handlers w) ((state w (older ++ before)).nodes i).exchange ≡ Some slot
  pub in_time : moment.time ≤ by

-- a slot that is marked is sent in time, unless the node is reset or installs its handler
abbrev pub SendsInTime : World → Type 0
SendsInTime w = (i slot time : ℕ) (before later : List Moment) → i < w.nodes → slot < handlers w * FRAGMENTS_MAX
    → HaveCome w (later ++ before) → last_time before ≤ time
    → IsTrue (is_marked_slot ((state w before).nodes i).exchange slot) → AreSparing w i (slot / FRAGMENTS_MAX) before later
    → IsDone (state w (later ++ before)) (time + handlers w * FRAGMENTS_MAX * w.description.radio.gap)
    → SendsSlot w i slot (time + handlers w * FRAGMENTS_MAX * w.description.radio.gap) before later
