use Rattle.callers_code.proofs.LockLemmas.{apart}
use Rattle.callers_code.proofs.lock_calls.what_is_started_conflicts_with_nothing_started.Goals as goal

pub returns : goal.returns
returns c = apart c.grant.result c.args.locks.now c.grant.new.self c.grant.ensures.granted
