use Rattle.callers_node.proofs.RunLemmas.{each_step}
use Rattle.callers_node.proofs.runs.each_step_records_what_it_makes.Goals as goal

pub returns : goal.returns
returns c = each_step c.args.desc.now c.args.steps.now c.args.programs.now c.run_steps.result c.run_steps.ensures
