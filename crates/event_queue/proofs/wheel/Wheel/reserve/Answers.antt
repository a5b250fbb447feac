use Rattle.std.proofs.Common.{refl}
use Rattle.event_queue.proofs.WheelLemmas.{keeps_all, keeps_grown, keeps_both}
use Rattle.event_queue.proofs.wheel.Wheel.reserve.Goals as goal

pub returns-in_err-grow-clause-keeps : goal.returns-in_err-grow-clause-keeps
returns-in_err-grow-clause-keeps g c =
    keeps_both g.T.Grouped.group_of c.args.self.now c.add_entry.new.self _ c.in_ok-add_entry.ensures.keeps
    (keeps_all g.T.Grouped.group_of c.add_entry.new.self _ c.in_ok-add_entry.ensures.keeps.right refl refl c.in_err-grow.ensures refl refl)

pub returns-clause-keeps : goal.returns-clause-keeps
returns-clause-keeps g c =
    keeps_both g.T.Grouped.group_of c.args.self.now c.add_entry.new.self _ c.in_ok-add_entry.ensures.keeps
    (keeps_grown g.T.Grouped.group_of c.add_entry.new.self _ c.in_ok-add_entry.ensures.keeps.right c.in_ok-add_entry.ensures.room refl refl c.in_ok-grow.ensures refl refl)
