use Rattle.report_laws.proofs.OneReport.{one-report}
use Rattle.report_laws.proofs.world_reports.world_has_one_report.Goals as goal

pub returns : goal.returns
returns c = one-report
