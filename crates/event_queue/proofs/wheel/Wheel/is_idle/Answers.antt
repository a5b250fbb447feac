use Rattle.event_queue.proofs.WheelLemmas.{idle_due}
use Rattle.event_queue.proofs.wheel.Wheel.is_idle.Goals as goal

pub returns : goal.returns
returns g c = λ idle. idle_due g.T.Grouped.group_of c.args.self.now (c.has_all.ensures idle)
