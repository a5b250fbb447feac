use Rattle.std.specs.Prelude.{length}
use Rattle.event_queue.specs.Links.{list_at}
use Rattle.event_queue.specs.Wheel.{near, KeepsView}
use Rattle.event_queue.proofs.wheel.Wheel.take_first.Given as goal

abbrev pub invariant-loop-self : goal.invariant-loop-self
invariant-loop-self g l = KeepsView g.T.Grouped.group_of l.fn.self l.self

abbrev pub decreases-loop-self : goal.decreases-loop-self
decreases-loop-self g l = length (list_at l.self.chains (near l.self.at))
