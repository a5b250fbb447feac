use Rattle.node_heap.proofs.HeapLemmas.{count_is}
use Rattle.node_heap.proofs.heap.Heap.buffer_count.Goals as goal

pub returns-clause-value : goal.returns-clause-value
returns-clause-value c = count_is record { is = c.self.invariant; values = c.self.told.0; lengths = c.self.told.1; view = c.self.view_is }
