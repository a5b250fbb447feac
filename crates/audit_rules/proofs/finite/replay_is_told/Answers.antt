use Rattle.audit_rules.proofs.RerunLemmas.{replay_told}
use Rattle.audit_rules.proofs.finite.replay_is_told.Goals as goal

pub returns : goal.returns
returns c = replay_told
