-- There is a seat for each of the contexts.
use Rattle.std.proofs.Common.{arith}
use Rattle.callers_worlds.proofs.contexts.a_posted_invocation_waits_for_its_locks.Goals as goal

pub post-requires-clause-seat : goal.post-requires-clause-seat
post-requires-clause-seat c = let seats = c.in_ok-contexts.ensures.seats in omega (arith, seats)
