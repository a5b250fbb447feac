use Rattle.report_laws.proofs.NodeFronts.{script-front}
use Rattle.report_laws.proofs.stopped_runs.stopped_scripts_begin_whole_ones.Goals as goal

pub returns : goal.returns
returns c d meaning steps out out' r r' left whole = script-front d meaning steps out out' r r' left whole
