use Rattle.std.proofs.Common.{ap}
use Rattle.std.specs.Prelude.{Some}
use Rattle.callers_code.proofs.LockLemmas.{conflict-self, one_ahead}
use Rattle.callers_code.proofs.lock_calls.a_writer_waits_for_another.Goals as goal

pub returns : goal.returns
returns c =
    let set = c.first_variable-set.result in
    let ahead = one_ahead set set (conflict-self set c.first_variable-set.ensures) in
    rw (c.blocked.ensures.number, c.enqueue-2.ensures.waiting, c.enqueue-2.ensures.started, c.enqueue.ensures.waiting, c.enqueue.ensures.started, c.new-locks.ensures) (ap Some ahead)
