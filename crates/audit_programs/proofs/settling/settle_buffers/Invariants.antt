use Rattle.std.proofs.Common.{◌≤◌, length}
use Rattle.mate_num.specs.Uses.{uses}
use Rattle.mate_code.specs.CodeUses.{uses_of}
use Rattle.audit_programs.specs.Settled.{IsSettled, is_buffer_below}
use Rattle.audit_programs.proofs.settling.settle_buffers.Given as goal

abbrev pub invariant-loop-b : goal.invariant-loop-b
invariant-loop-b l = record {
  settled : IsSettled (is_buffer_below l.b) (uses (uses_of l.program.code.shape l.program.code.code)) l.base l.store l.fn.heap l.heap;
  few : l.b ≤ length l.store.buffers.items;
}
