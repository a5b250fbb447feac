use Rattle.node_heap.proofs.HeapLemmas.{with_values}
use Rattle.node_heap.proofs.heap.Heap.set_variables.Goals as goal

pub returns : goal.returns
returns c =
    with_values record { is = c.self.invariant; values = c.self.told.0; lengths = c.self.told.1; view = c.self.view_is } c.args.values.now c.copy_from_slice.new.self
    c.copy_from_slice.ensures.after c.requires
