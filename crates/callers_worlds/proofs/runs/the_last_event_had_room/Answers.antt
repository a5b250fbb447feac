use Rattle.callers_worlds.proofs.RunLemmas.{came_with_room}
use Rattle.callers_worlds.proofs.runs.the_last_event_had_room.Goals as goal

pub returns : goal.returns
returns c = came_with_room c.args.desc.now c.args.world.now c.args.programs.now c.run.result c.run.ensures
