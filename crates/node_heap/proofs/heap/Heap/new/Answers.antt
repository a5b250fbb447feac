use Rattle.node_heap.proofs.HeapLemmas.{store_of-new}
use Rattle.node_heap.proofs.heap.Heap.new.Goals as goal

pub returns : goal.returns
returns c = store_of-new c.args.shared c.args.buffers c.requires.shared_fits c.requires.buffers_fit
