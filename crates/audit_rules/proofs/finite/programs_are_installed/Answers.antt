use Rattle.audit_rules.proofs.InstalledLemmas.{nobody-LiveAreInstalled, LiveAreInstalled-step}
use Rattle.audit_rules.proofs.finite.programs_are_installed.Goals as goal

pub returns : goal.returns
returns c = record { begins = nobody-LiveAreInstalled; goes_on = LiveAreInstalled-step }
