use Rattle.callers_node.proofs.TurnLemmas.{nobody_ready, not_so}
use Rattle.callers_node.proofs.turns.nobody_is_ready_once_all_settled.Goals as goal

pub returns : goal.returns
returns c = λ p has. not_so c.is_ready.result _ _ (nobody_ready c.args.node.now c.settle.new.self c.args.at _ c.settle.ensures p has) c.is_ready.ensures
