-- The lines of a script come in their order.
use Rattle.std.specs.Prelude.{◌≡◌, ℕ, ◌<◌, ◌≤◌, List, ◌∷◌, ◌++◌, Some, slice_get}
use Rattle.world_rules.specs.Cause.{Cause}
use Rattle.world_rules.specs.Cause as event
use Rattle.world_rules.specs.World.{World, PlannedLine}
use Rattle.world_rules.specs.State.{Moment}
use Rattle.world_rules.specs.Run.{HaveCome}

-- a line's time isn't before that of an earlier one
abbrev pub IsPlanTimely : World → Type 0
IsPlanTimely w = (i j : ℕ) (a b : PlannedLine) → slice_get w.plan i ≡ Some a → slice_get w.plan j ≡ Some b → i < j → a.time ≤ b.time

-- an event of a later line comes later
abbrev pub LinesInOrder : World → Type 0
LinesInOrder w = (before later : List Moment) (x y : Moment) (i j : ℕ) → HaveCome w (x ∷ (later ++ (y ∷ before)))
    → y.cause ≡ event.Planned i → x.cause ≡ event.Planned j → i < j
