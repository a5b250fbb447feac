use Rattle.std.proofs.Common.{length, ap, arith, ℤ, List}
use Rattle.std.proofs.lemmas.Int.{to_z-of_z}
use Rattle.std.specs.Int.{w16}
use Rattle.node_heap.proofs.HeapLemmas.{Opened, append-Changes}
use Rattle.node_heap.proofs.heap.Heap.append.Goals as goal

pub returns : goal.returns
returns c =
    let o : Opened c.self.inside c.args.self.now = record { is = c.self.invariant; values = c.self.told.0; lengths = c.self.told.1; view = c.self.view_is } in
    append-Changes o c.args.buf.0 c.requires _ (length c.buffer_values-size.result.now) c.from.result c.args.value _ (to_z-of_z w16 c.args.value c.ranges.value)
    (ap (λ (xs : List ℤ). length xs) c.buffer_values-size.ensures.value) (omega arith) c.from.ensures (omega arith)
