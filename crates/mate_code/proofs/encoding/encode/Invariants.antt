use Rattle.std.proofs.Common.{◌≡◌, take}
use Rattle.std.specs.Prelude.{All}
use Rattle.mate_code.specs.Code.{code_bytes, IsWritable}
use Rattle.mate_code.proofs.encoding.encode.Given as goal

abbrev pub invariant-loop-instr : goal.invariant-loop-instr
invariant-loop-instr l = record {
  bytes : l.code.items ≡ code_bytes l.table (take l.instr-index l.instrs);
  writable : All IsWritable (take l.instr-index l.instrs);
}
