use Rattle.lock_manager.proofs.ConflictLemmas.{conflict_from_compatible}
use Rattle.lock_manager.proofs.conflict.conflicts.Goals as goal

pub returns : goal.returns
returns c = conflict_from_compatible c.args.set.now c.args.other.now c.compatible.result c.compatible.ensures
