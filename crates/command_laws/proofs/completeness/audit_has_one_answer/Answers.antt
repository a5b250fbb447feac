use Rattle.command_laws.proofs.OneAudit.{audit_agrees}
use Rattle.command_laws.proofs.completeness.audit_has_one_answer.Goals as goal

pub returns : goal.returns
returns c names fold vm script report = audit_agrees names fold vm script report
