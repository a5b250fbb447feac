use Rattle.std.proofs.lemmas.Int.{to_z-of_z}
use Rattle.std.specs.Int.{w16}
use Rattle.node_heap.proofs.HeapLemmas.{with_value}
use Rattle.node_heap.proofs.heap.Heap.put.Goals as goal

pub returns : goal.returns
returns c =
    rw (to_z-of_z w16 c.args.value c.ranges.value, c.from.ensures)
    (with_value record { is = c.self.invariant; values = c.self.told.0; lengths = c.self.told.1; view = c.self.view_is } c.args.var.0 c.args.value c.requires)
