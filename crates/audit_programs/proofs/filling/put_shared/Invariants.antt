use Rattle.std.proofs.Common.{◌≡◌, take}
use Rattle.audit_programs.proofs.FillingLemmas.{overlaid}
use Rattle.audit_programs.proofs.filling.put_shared.Given as goal

abbrev pub invariant-loop-i : goal.invariant-loop-i
invariant-loop-i l = l.heap ≡ record { shared = record { items = overlaid (take l.i l.fn.values) l.fn.heap.shared.items }; buffers = l.fn.heap.buffers }
