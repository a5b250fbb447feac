use Rattle.std.proofs.Common.{◌≡◌, ◌*◌, ◌≤◌, take}
use Rattle.std.specs.Prelude.{sum_by}
use Rattle.mate_code.specs.Instr.{size_of}
use Rattle.mate_code.proofs.encoding.total_size.Given as goal

abbrev pub invariant-loop-instr : goal.invariant-loop-instr
invariant-loop-instr l = (l.size ≡ sum_by size_of (take l.instr-index l.instrs)) × (l.size ≤ 3 * l.instr-index)
