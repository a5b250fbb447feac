use Rattle.audit_rules.proofs.ConflictLemmas.{code-TellsConflicts}
use Rattle.audit_rules.proofs.run_laws.conflicts_are_told.Goals as goal

pub returns : goal.returns
returns c = code-TellsConflicts
