use Rattle.std.proofs.Common.{rules}
use Rattle.mate_num.proofs.LockLemmas.{same_sets}
use Rattle.mate_num.proofs.lock_set.lock_sets_are_their_words.Goals as goal

pub returns : goal.returns
returns c = same_sets c.args.a c.args.b (search rules) (search rules) (search rules) (search rules)
