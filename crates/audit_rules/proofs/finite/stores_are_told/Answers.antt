use Rattle.audit_rules.proofs.ShownLemmas.{stores_told}
use Rattle.audit_rules.proofs.finite.stores_are_told.Goals as goal

pub returns : goal.returns
returns c = stores_told
