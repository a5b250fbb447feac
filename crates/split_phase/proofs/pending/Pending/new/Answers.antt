use Rattle.split_phase.proofs.CallLemmas.{AreNone-from_each}
use Rattle.split_phase.proofs.pending.Pending.new.Goals as goal

pub returns : goal.returns
returns c = AreNone-from_each c.default.result c.default.ensures.long c.default.ensures.at
