use Rattle.std.proofs.Common.{◌≡◌, take}
use Rattle.mate_num.specs.Store.{set_buffer}
use Rattle.audit_programs.proofs.filling.put_buffer.Given as goal

abbrev pub invariant-loop-i : goal.invariant-loop-i
invariant-loop-i l = l.heap ≡ set_buffer l.fn.heap l.buffer.0 (take l.i l.fn.values)
