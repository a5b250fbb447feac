use Rattle.std.proofs.Common.{◌≡◌, take}
use Rattle.node_runs.proofs.CountingLemmas.{counted-as}
use Rattle.node_runs.proofs.heap_node.HeapNode.count_kept.Goals as goal

pub returns-clause-tallies : goal.returns-clause-tallies
returns-clause-tallies c =
    let e : c.args.self.now ≡ c.deref.result.now = cc in
    λ n is.
    counted-as n c.args.self.now c.deref.result.now e c.kept.result.now c.add_all.new.self c.entries.result.now c.entries.ensures c.kept.ensures.kept
    (c.add_all.ensures.tallies n (take c.args.self.now.gone.entries c.args.self.now.log.entries) is)

pub returns-clause-up : goal.returns-clause-up
returns-clause-up c = c.add_all.ensures.up
