use Rattle.std.proofs.Common.{rules}
use Rattle.trickle_timer.proofs.IntervalLemmas.{Continues-after}
use Rattle.trickle_timer.proofs.timer.Trickle.again.Goals as goal

pub returns : goal.returns
returns c = record { next = Continues-after _ _ _ (search rules) }
