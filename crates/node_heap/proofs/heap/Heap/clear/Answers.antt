use Rattle.std.proofs.Common.{arith}
use Rattle.node_heap.proofs.HeapLemmas.{Opened, is-below-8, shorter_is}
use Rattle.node_heap.proofs.heap.Heap.clear.Goals as goal

pub bounds-self-inside-from : goal.bounds-self-inside-from
bounds-self-inside-from c =
    let o : Opened c.self.inside c.args.self.now = record { is = c.self.invariant; values = c.self.told.0; lengths = c.self.told.1; view = c.self.view_is } in
    rw c.from.ensures (is-below-8 o c.args.buf.0 c.requires)

pub returns : goal.returns
returns c =
    let o : Opened c.self.inside c.args.self.now = record { is = c.self.invariant; values = c.self.told.0; lengths = c.self.told.1; view = c.self.view_is } in
    shorter_is o c.args.buf.0 c.requires c.from.result 0 c.from.ensures (omega arith)
