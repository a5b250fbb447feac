use Rattle.mate_num.proofs.LockLemmas.{adds_word}
use Rattle.mate_num.proofs.lock_set.LockSet.with_read.Goals as goal

pub returns-clause-reads : goal.returns-clause-reads
returns-clause-reads c = adds_word c.args.self.read c.bit.result c.args.resource c.requires c.bit.ensures
