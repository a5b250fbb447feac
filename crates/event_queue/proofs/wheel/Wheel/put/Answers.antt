use Rattle.event_queue.proofs.WheelLemmas.{puts_after}
use Rattle.event_queue.proofs.wheel.Wheel.put.Goals as goal

pub returns : goal.returns
returns g c = puts_after g.T.Grouped.group_of c.args.self.now c.reserve.new.self _ c.args.time c.args.item c.reserve.ensures.keeps c.put_free.ensures
