use Rattle.std.proofs.Common.{refl}
use Rattle.event_queue.proofs.WheelLemmas.{rewinds}
use Rattle.event_queue.proofs.wheel.Wheel.rewind.Goals as goal

pub returns : goal.returns
returns g c = rewinds g.T.Grouped.group_of c.args.self.now _ c.args.at c.requires.right c.requires.none c.requires.back refl
