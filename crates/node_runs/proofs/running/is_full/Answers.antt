use Rattle.std.proofs.Common.{ap, nat_le}
use Rattle.mate_journal.specs.declared.report.TheConstants.{RECORDS_MAX as records_max}
use Rattle.node_runs.proofs.running.is_full.Goals as goal

pub returns-clause-full : goal.returns-clause-full
returns-clause-full c = ap (nat_le records_max) c.told.ensures.count
