use Rattle.std.proofs.Common.{◌≤◌, length}
use Rattle.mate_num.specs.Uses.{uses}
use Rattle.mate_code.specs.CodeUses.{uses_of}
use Rattle.audit_programs.specs.Settled.{IsSettled, is_variable_below}
use Rattle.audit_programs.proofs.settling.settle_variables.Given as goal

abbrev pub invariant-loop-v : goal.invariant-loop-v
invariant-loop-v l = record {
  settled : IsSettled (is_variable_below l.v) (uses (uses_of l.program.code.shape l.program.code.code)) l.base l.store l.fn.heap l.heap;
  few : l.v ≤ length l.store.shared.items;
}
