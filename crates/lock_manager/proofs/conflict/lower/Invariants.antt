use Rattle.std.proofs.Common.{◌≡◌, ◌++◌, map, take, drop}
use Rattle.lock_manager.specs.Counts.{lowered}
use Rattle.lock_manager.proofs.conflict.lower.Given as goal

abbrev pub invariant-loop-waiter : goal.invariant-loop-waiter
invariant-loop-waiter l = l.waiter-items ≡ map (lowered l.released) (take l.waiter-index l.fn.waiters) ++ drop l.waiter-index l.fn.waiters
