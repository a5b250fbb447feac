use Rattle.callers_node.proofs.RunLemmas.{sent_whole, seen_whole}
use Rattle.callers_node.proofs.runs.a_whole_run_is_written_to_its_last_store.Goals as goal

pub returns-clause-sent : goal.returns-clause-sent
returns-clause-sent g c = sent_whole c.args.desc.now c.args.steps.now c.args.programs.now _ _ _ _ c.run_steps_into.result c.run_steps_into.ensures.gives

pub returns-clause-seen : goal.returns-clause-seen
returns-clause-seen g c = seen_whole c.args.desc.now c.args.steps.now c.args.programs.now _ _ _ _ c.run_steps_into.result c.run_steps_into.ensures.gives
