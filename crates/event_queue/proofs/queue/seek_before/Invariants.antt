use Rattle.std.specs.Prelude.{◌-◌}
use Rattle.event_queue.proofs.QueueLemmas.{Sought}
use Rattle.event_queue.proofs.queue.seek_before.Given as goal

abbrev pub invariant-loop-wheel : goal.invariant-loop-wheel
invariant-loop-wheel g l = Sought g.T.Grouped.group_of l.end l.fn.wheel l.wheel

abbrev pub decreases-loop-wheel : goal.decreases-loop-wheel
decreases-loop-wheel g l = l.end - l.wheel.at
