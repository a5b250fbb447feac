use Rattle.audit_rules.proofs.GrantLemmas.{grants_told}
use Rattle.audit_rules.proofs.finite.grants_are_told.Goals as goal

pub returns : goal.returns
returns c = grants_told
