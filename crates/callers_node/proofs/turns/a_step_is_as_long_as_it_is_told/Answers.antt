use Rattle.callers_node.proofs.TurnLemmas.{each_executes}
use Rattle.callers_node.proofs.turns.a_step_is_as_long_as_it_is_told.Goals as goal

pub returns : goal.returns
returns c = each_executes c.args.node.now c.step.new.self c.args.at c.args.ctx 7 c.step.result _ c.step.ensures
