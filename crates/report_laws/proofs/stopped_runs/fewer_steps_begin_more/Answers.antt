use Rattle.report_laws.proofs.NodeFronts.{begins}
use Rattle.report_laws.proofs.stopped_runs.fewer_steps_begin_more.Goals as goal

pub returns : goal.returns
returns c m steps more how l l' run run' is = begins m steps more how l l' run run' is
