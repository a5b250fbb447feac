use Rattle.std.proofs.Common.{◌-◌, length, arith}
use Rattle.mate_num.specs.Store.{buffer_at}
use Rattle.node_heap.proofs.HeapLemmas.{Opened, shorter_is}
use Rattle.node_heap.proofs.heap.Heap.take.Goals as goal

pub returns-clause-rest : goal.returns-clause-rest
returns-clause-rest c =
    let o : Opened c.self.inside c.args.self.now = record { is = c.self.invariant; values = c.self.told.0; lengths = c.self.told.1; view = c.self.view_is } in
    rw c.buffer_values-values.ensures.value
    (shorter_is o c.args.buf.0 c.requires c.from.result (length (buffer_at c.args.self.now c.args.buf.0) - 1) c.from.ensures (omega arith))
