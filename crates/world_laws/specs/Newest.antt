-- A version of a handler, and that nothing newer was installed.
use Rattle.std.specs.Prelude.{◌≡◌, ℕ, ◌<◌, ◌≤◌, List}
use Rattle.mate_num.specs.declared.bounds.TheConstants.{FRAGMENTS_MAX}
use Rattle.mate_num.specs.Lists.{EachOver}
use Rattle.mate_journal.specs.Machine.{HeldProgram}
use Rattle.capsule_codec.specs.Fragments.{count_of}
use Rattle.world_rules.specs.World.{World, handlers}
use Rattle.world_rules.specs.Effect.{Installing}
use Rattle.world_rules.specs.State.{Moment, effect_at, state}

-- a program for a handler: its version and its image, of 1 to `FRAGMENTS_MAX` fragments
pub record Version : Type 0 where
  pub handler : ℕ
  pub version : ℕ
  pub image : List ℕ

pub record IsWorldVersion (w : World) (v : Version) : Type 0 where
  pub handler : v.handler < handlers w
  pub low : 1 ≤ v.version
  pub some : 1 ≤ count_of v.image
  pub few : count_of v.image ≤ FRAGMENTS_MAX

-- the newest that was installed for its handler, and of this version only with this image
abbrev pub IsNewest : World → Version → List Moment → Type 0
IsNewest w v = EachOver (λ m before.
    (p : HeldProgram) → (effect_at w (state w before) m).deed ≡ Installing p → p.handler.0 ≡ v.handler
    → (p.version ≤ v.version) × (p.version ≡ v.version → p.image.items ≡ v.image))
