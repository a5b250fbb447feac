use Rattle.std.proofs.Common.{◌≡◌, take}
use Rattle.audit_programs.proofs.FillingLemmas.{overlaid}
use Rattle.audit_programs.proofs.filling.put_buffers.Given as goal

abbrev pub invariant-loop-i : goal.invariant-loop-i
invariant-loop-i l = l.heap ≡ record { shared = l.fn.heap.shared; buffers = record { items = overlaid (take l.i l.fn.buffers) l.fn.heap.buffers.items } }
