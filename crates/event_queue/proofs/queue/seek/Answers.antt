use Rattle.std.proofs.Common.{sym}
use Rattle.event_queue.proofs.QueueLemmas.{found_at, found_before}
use Rattle.event_queue.proofs.WheelLemmas.{not_some}
use Rattle.event_queue.proofs.queue.seek.Goals as goal

pub returns-then-is_some : goal.returns-then-is_some
returns-then-is_some g c = found_before _ _ _ _ _ c.seek_before-item.ensures (sym c.if-is_some.ensures)

pub returns : goal.returns
returns g c =
    found_at _ _ _ _ _ _ _ c.requires.ahead c.seek_before-item.ensures (not_some _ c.if-is_some.ensures)
    c.take_first.ensures.takes c.take_first.ensures.none
