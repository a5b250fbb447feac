use Rattle.mate_num.proofs.LockLemmas.{tests_word}
use Rattle.mate_num.proofs.lock_set.LockSet.reads.Goals as goal

pub returns : goal.returns
returns c = tests_word c.args.self.now.read c.bit.result c.args.resource c.requires c.bit.ensures
