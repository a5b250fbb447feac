use Rattle.report_laws.proofs.OfScripts.{one-of-script}
use Rattle.report_laws.proofs.world_reports.script_has_one_report.Goals as goal

pub returns : goal.returns
returns c = one-of-script
