use Rattle.std.proofs.Common.{refl}
use Rattle.event_queue.proofs.WheelLemmas.{keeps_all, keeps_blank}
use Rattle.event_queue.proofs.wheel.Wheel.add_entry.Goals as goal

pub returns-in_err-push-clause-keeps : goal.returns-in_err-push-clause-keeps
returns-in_err-push-clause-keeps g c = keeps_all g.T.Grouped.group_of c.args.self.now _ c.requires refl refl refl c.in_err-push.ensures.items refl

pub returns-clause-keeps : goal.returns-clause-keeps
returns-clause-keeps g c = keeps_blank g.T.Grouped.group_of c.args.self.now _ c.requires refl refl refl c.in_ok-push.ensures.items refl
