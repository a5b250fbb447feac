use Rattle.audit_rules.proofs.ReportLemmas.{verdict-told}
use Rattle.audit_rules.proofs.laws.the_verdict_is_told.Goals as goal

pub returns : goal.returns
returns c = verdict-told
