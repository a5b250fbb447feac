use Rattle.mate_num.proofs.LockLemmas.{adds_word}
use Rattle.mate_num.proofs.lock_set.LockSet.with_write.Goals as goal

pub returns-clause-writes : goal.returns-clause-writes
returns-clause-writes c = adds_word c.args.self.written c.bit.result c.args.resource c.requires c.bit.ensures
