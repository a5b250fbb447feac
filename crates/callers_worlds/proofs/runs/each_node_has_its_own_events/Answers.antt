use Rattle.callers_worlds.proofs.RunLemmas.{own_events}
use Rattle.callers_worlds.proofs.runs.each_node_has_its_own_events.Goals as goal

pub returns : goal.returns
returns c = own_events c.args.desc.now c.args.world.now c.args.programs.now c.run.result c.run.ensures
