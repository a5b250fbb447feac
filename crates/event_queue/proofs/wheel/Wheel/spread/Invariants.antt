use Rattle.std.specs.Prelude.{length}
use Rattle.event_queue.specs.Links.{list_at}
use Rattle.event_queue.specs.Wheel.{far}
use Rattle.event_queue.proofs.WheelLemmas.{Spreads}
use Rattle.event_queue.proofs.wheel.Wheel.spread.Given as goal

abbrev pub invariant-loop-place : goal.invariant-loop-place
invariant-loop-place g l = Spreads g.T.Grouped.group_of l.fn.self l.self

abbrev pub decreases-loop-place : goal.decreases-loop-place
decreases-loop-place g l = length (list_at l.self.chains (far l.self.at))
