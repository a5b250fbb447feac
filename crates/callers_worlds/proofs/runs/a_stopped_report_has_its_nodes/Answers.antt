use Rattle.callers_worlds.proofs.RunLemmas.{keeps_nodes}
use Rattle.callers_worlds.proofs.runs.a_stopped_report_has_its_nodes.Goals as goal

pub returns : goal.returns
returns g c = keeps_nodes c.args.desc.now c.args.world.now c.args.programs.now _ _ _ _ c.run_into.result c.run_into.ensures.gives
