use Rattle.audit_rules.proofs.ReportLemmas.{same-verdict}
use Rattle.audit_rules.proofs.laws.verdicts_are_on_journals.Goals as goal

pub returns : goal.returns
returns c = same-verdict
