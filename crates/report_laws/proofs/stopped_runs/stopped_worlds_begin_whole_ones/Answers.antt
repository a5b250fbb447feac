use Rattle.report_laws.proofs.WorldFronts.{world-front}
use Rattle.report_laws.proofs.OfScripts.{nodes-of-script}
use Rattle.world_rules.specs.World.{world_of}
use Rattle.report_laws.proofs.stopped_runs.stopped_worlds_begin_whole_ones.Goals as goal

pub returns : goal.returns
returns c d meaning script programs out out' r r' right left whole =
    world-front (world_of d meaning script programs) (nodes-of-script d meaning script programs right) out out' r r' left whole
