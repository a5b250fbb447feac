use Rattle.world_run_laws.proofs.Tidy.{world-tidy}
use Rattle.world_run_laws.proofs.laws.world_report_is_tidy.Goals as goal

pub returns : goal.returns
returns c = world-tidy
