use Rattle.std.proofs.Common.{[], take}
use Rattle.world_air.specs.Changes.{AddsToAir}
use Rattle.world_air.specs.Starting.{planned_items}
use Rattle.world_air.proofs.start.schedule_lines.Given as goal

abbrev pub invariant-loop-line : goal.invariant-loop-line
invariant-loop-line l = AddsToAir l.initial.radio l.radio [] (planned_items 0 (take l.line l.world.events))
