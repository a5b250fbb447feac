use Rattle.std.proofs.Common.{[], take}
use Rattle.world_air.specs.Changes.{AddsToAir}
use Rattle.world_air.specs.Starting.{first_periods}
use Rattle.world_air.proofs.start.schedule_periods.Given as goal

abbrev pub invariant-loop-h : goal.invariant-loop-h
invariant-loop-h l = AddsToAir l.initial.radio l.radio [] (first_periods l.node 0 (take l.h l.desc.handlers.items))
