use Rattle.callers_worlds.proofs.RunLemmas.{ends_seen}
use Rattle.callers_worlds.proofs.runs.the_first_node_is_seen_at_the_end.Goals as goal

pub returns : goal.returns
returns c = ends_seen c.args.desc.now c.args.world.now c.args.programs.now c.run.result c.requires.nodes c.run.ensures
