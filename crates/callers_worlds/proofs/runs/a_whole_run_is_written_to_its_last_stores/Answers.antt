use Rattle.callers_worlds.proofs.RunLemmas.{own_written, sent_whole}
use Rattle.callers_worlds.proofs.runs.a_whole_run_is_written_to_its_last_stores.Goals as goal

pub returns-clause-sent : goal.returns-clause-sent
returns-clause-sent g c = sent_whole c.args.desc.now c.args.world.now c.args.programs.now _ _ _ _ c.run_into.result c.run_into.ensures.gives

pub returns-clause-seen : goal.returns-clause-seen
returns-clause-seen g c = own_written c.args.desc.now c.args.world.now c.args.programs.now _ _ _ _ c.run_into.result c.run_into.ensures.gives
