use Rattle.callers_node.proofs.RunLemmas.{no_last_line}
use Rattle.callers_node.proofs.runs.a_cut_run_has_no_last_line.Goals as goal

pub returns : goal.returns
returns g c = no_last_line c.args.desc.now c.args.steps.now c.args.programs.now _ _ _ _ c.run_steps_into.result c.run_steps_into.ensures.gives
