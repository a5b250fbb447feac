use Rattle.std.proofs.Common.{◌≡◌, take}
use Rattle.node_heap.proofs.heap.Heap.store.Given as goal

abbrev pub invariant-loop-buf : goal.invariant-loop-buf
invariant-loop-buf l = record {
  shared : l.store.shared.items ≡ l.self.shared.items;
  buffers : l.store.buffers.items ≡ take l.buf l.self.buffers.items;
}
