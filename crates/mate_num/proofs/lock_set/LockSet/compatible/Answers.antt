use Rattle.mate_num.proofs.LockLemmas.{first_decides, second_decides}
use Rattle.mate_num.proofs.lock_set.LockSet.compatible.Goals as goal

pub returns-then-not-overlap : goal.returns-then-not-overlap
returns-then-not-overlap c =
    second_decides c.args.self.now c.args.other.now c.overlap-then-not-overlap.result c.if-not-overlap.ensures c.overlap-then-not-overlap.ensures

pub returns-else-not-overlap : goal.returns-else-not-overlap
returns-else-not-overlap c =
    first_decides c.args.self.now c.args.other.now c.overlap.result c.if-not-overlap.ensures c.if-not-overlap.false
