use Rattle.audit_rules.proofs.ReplayLemmas.{ends_enough}
use Rattle.audit_rules.proofs.finite.ends_are_enough.Goals as goal

pub returns : goal.returns
returns c = ends_enough
