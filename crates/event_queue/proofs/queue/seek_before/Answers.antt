use Rattle.std.proofs.Common.{sym, arith}
use Rattle.event_queue.proofs.QueueLemmas.{sought_start, sought_more, sought_end, found}
use Rattle.event_queue.proofs.WheelLemmas.{not_some}
use Rattle.event_queue.proofs.queue.seek_before.Goals as goal

pub loop-wheel-init : goal.loop-wheel-init
loop-wheel-init g c = sought_start _ _ _ c.requires.right c.requires.ahead

pub returns-then-is_some : goal.returns-then-is_some
returns-then-is_some g c = found _ _ _ _ _ _ c.loop-wheel.invariant c.loop-wheel-test.true c.take_first-item.ensures.takes (sym c.if-is_some.ensures)

pub loop-wheel-preserved-else-is_some : goal.loop-wheel-preserved-else-is_some
loop-wheel-preserved-else-is_some g c =
    sought_more _ _ _ _ _ _ _ c.loop-wheel.invariant c.take_first-item.ensures.takes (not_some _ c.if-is_some.ensures)
    c.advance.ensures.on c.advance.ensures.within c.advance.ensures.turns

pub loop-wheel-preserved : goal.loop-wheel-preserved
loop-wheel-preserved g c =
    sought_more _ _ _ _ _ _ _ c.loop-wheel.invariant c.take_first-item.ensures.takes (not_some _ c.if-is_some.ensures)
    c.advance.ensures.on c.advance.ensures.within c.advance.ensures.turns

pub loop-wheel-smaller-else-is_some : goal.loop-wheel-smaller-else-is_some
loop-wheel-smaller-else-is_some g c = omega (arith, c.advance.ensures.on, c.advance.ensures.within, c.take_first-item.ensures.takes.at)

pub loop-wheel-smaller : goal.loop-wheel-smaller
loop-wheel-smaller g c = omega (arith, c.advance.ensures.on, c.advance.ensures.within, c.take_first-item.ensures.takes.at)

pub returns : goal.returns
returns g c = sought_end _ _ _ _ c.loop-wheel.invariant c.loop-wheel-test.false
