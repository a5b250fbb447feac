-- What is installed was injected.
use Rattle.std.specs.Prelude.{◌≡◌, ℕ, ◌<◌, ◌≤◌, List, ◌∷◌, ◌++◌, Some, slice_get}
use Rattle.mate_journal.specs.Machine.{HeldProgram}
use Rattle.world_rules.specs.Cause.{Cause}
use Rattle.world_rules.specs.Cause as event
use Rattle.world_rules.specs.World.{World, PlannedLine, Inject}
use Rattle.world_rules.specs.Effect.{Installing}
use Rattle.world_rules.specs.State.{Moment, effect_at, state}
use Rattle.world_rules.specs.Run.{HaveCome}
use Rattle.world_laws.specs.Newest.{Version, IsNewest}

-- the line at this place injects the program
abbrev pub InjectsAt : World → ℕ → HeldProgram → Type 0
InjectsAt w i p = (l : PlannedLine) × (slice_get w.plan i ≡ Some l) × (l.what ≡ Inject p)

-- one of these events was of a line that injects a program for the handler, of this version and with this image
pub record WasInjected (w : World) (ms : List Moment) (h version : ℕ) (image : List ℕ) : Type 0 where
  pub newer : List Moment
  pub moment : Moment
  pub older : List Moment
  pub split : ms ≡ newer ++ moment ∷ older
  pub place : ℕ
  pub cause : moment.cause ≡ event.Planned place
  pub program : HeldProgram
  pub injects : InjectsAt w place program
  pub handler : program.handler.0 ≡ h
  pub version_is : program.version ≡ version
  pub image_is : program.image.items ≡ image

-- the lines of a handler inject one image for a version
abbrev pub IsOneImage : World → Type 0
IsOneImage w = (i j : ℕ) (p q : HeldProgram) → InjectsAt w i p → InjectsAt w j q → p.handler.0 ≡ q.handler.0 → p.version ≡ q.version
    → p.image.items ≡ q.image.items

-- the versions that lines inject for a handler rise
abbrev pub AreVersionsRising : World → Type 0
AreVersionsRising w = (i j : ℕ) (p q : HeldProgram) → InjectsAt w i p → InjectsAt w j q → p.handler.0 ≡ q.handler.0 → i < j
    → p.version < q.version

-- they are from 1 on
abbrev pub AreVersionsPositive : World → Type 0
AreVersionsPositive w = (i : ℕ) (p : HeldProgram) → InjectsAt w i p → 1 ≤ p.version

-- each install is of a program that a line injected in the same or an earlier event
abbrev pub InstallsInjected : World → Type 0
InstallsInjected w = (m : Moment) (before : List Moment) (p : HeldProgram) → HaveCome w (m ∷ before)
    → (effect_at w (state w before) m).deed ≡ Installing p → WasInjected w (m ∷ before) p.handler.0 p.version p.image.items

-- the lines that came inject nothing newer for the handler, and of this version only this image
abbrev pub InjectsAtMost : World → Version → List Moment → Type 0
InjectsAtMost w v ms = (newer older : List Moment) (x : Moment) (i : ℕ) (p : HeldProgram) → ms ≡ newer ++ x ∷ older
    → x.cause ≡ event.Planned i → InjectsAt w i p → p.handler.0 ≡ v.handler
    → (p.version ≤ v.version) × (p.version ≡ v.version → p.image.items ≡ v.image)

-- then nothing newer was installed
abbrev pub InstallsAtMost : World → Type 0
InstallsAtMost w = (v : Version) (ms : List Moment) → HaveCome w ms → InjectsAtMost w v ms → IsNewest w v ms
