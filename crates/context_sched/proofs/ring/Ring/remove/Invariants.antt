use Rattle.context_sched.proofs.RingLemmas.{IsTurned}
use Rattle.context_sched.proofs.ring.Ring.remove.Given as goal

abbrev pub invariant-loop : goal.invariant-loop
invariant-loop l = IsTurned l.fn.self l.ctx l.counter l.self-inside.ready
