use Rattle.audit_rules.proofs.PartLemmas.{code-GoesByParts}
use Rattle.audit_rules.proofs.run_laws.runs_go_by_parts.Goals as goal

pub returns : goal.returns
returns c = code-GoesByParts
