use Rattle.audit_rules.proofs.VerdictLemmas.{one-verdict, serial-verdict}
use Rattle.audit_rules.proofs.laws.one_verdict.Goals as goal

pub returns : goal.returns
returns c = record { one = one-verdict; serial = serial-verdict }
