use Rattle.node_runs.proofs.KeptLemmas.{same-then, stays-back}
use Rattle.node_runs.proofs.heap_node.HeapNode.make_room.Goals as goal

pub returns-clause-same : goal.returns-clause-same
returns-clause-same c = same-then c.args.self.now c.let_go.new.self c.reserve.new.self c.let_go.ensures.same c.reserve.ensures.same

pub returns-clause-pace : goal.returns-clause-pace
returns-clause-pace c = λ p h. c.reserve.ensures.pace p (c.let_go.ensures.pace p h)

pub returns-clause-gone : goal.returns-clause-gone
returns-clause-gone c = stays-back c.args.written c.args.self.now.gone c.let_go.new.self.gone c.reserve.new.self.gone c.let_go.ensures.gone c.reserve.ensures.same.gone

pub returns-clause-ranges : goal.returns-clause-ranges
returns-clause-ranges c = λ h. c.reserve.ensures.ranges (c.let_go.ensures.ranges h)
