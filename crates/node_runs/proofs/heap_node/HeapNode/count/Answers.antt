use Rattle.std.proofs.Common.{◌^◌, arith}
use Rattle.report_writer.proofs.TallyLemmas.{up-to}
use Rattle.node_open.proofs.CallLemmas.{same-on}
use Rattle.node_runs.proofs.heap_node.HeapNode.count.Goals as goal

pub count_kept-requires : goal.count_kept-requires
count_kept-requires c = up-to (2 ^ 56) (2 ^ 63) c.args.tally.now (omega arith) c.requires.up

pub returns-clause-same : goal.returns-clause-same
returns-clause-same c = same-on _ c.forget.new.self c.reserve.new.self c.forget.ensures.same c.reserve.ensures.same

pub returns-clause-pace : goal.returns-clause-pace
returns-clause-pace c = λ p h. c.reserve.ensures.pace p (c.forget.ensures.pace p h)

pub returns-clause-ranges : goal.returns-clause-ranges
returns-clause-ranges c = λ h. c.reserve.ensures.ranges (c.forget.ensures.ranges h)
