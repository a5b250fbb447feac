use Rattle.std.proofs.Common.{rules}
use Rattle.trickle_timer.proofs.IntervalLemmas.{Continues-after}
use Rattle.trickle_timer.proofs.timer.Trickle.reset.Goals as goal

pub returns-then-self-clause-next : goal.returns-then-self-clause-next
returns-then-self-clause-next c = Continues-after _ _ _ (search rules)

pub returns-else-self-clause-next : goal.returns-else-self-clause-next
returns-else-self-clause-next c = Continues-after _ _ _ (search rules)
