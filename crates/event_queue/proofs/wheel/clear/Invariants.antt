use Rattle.std.specs.Prelude.{◌≡◌, ◌++◌, map, take, drop}
use Rattle.event_queue.specs.Wheel.{cleared}
use Rattle.event_queue.proofs.wheel.clear.Given as goal

abbrev pub invariant-loop-entry : goal.invariant-loop-entry
invariant-loop-entry g l = l.entry-items ≡ map (cleared g.T.Grouped.group_of l.group) (take l.entry-index l.initial.entry-items) ++ drop l.entry-index l.initial.entry-items
