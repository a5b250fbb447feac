use Rattle.mate_code.proofs.OpcodeLemmas.{kind_at-opcode_of, opcode_of-kind_at}
use Rattle.mate_code.proofs.codec_laws.each_opcode_once.Goals as goal

pub returns-clause-stands : goal.returns-clause-stands
returns-clause-stands c = kind_at-opcode_of

pub returns-clause-in_table : goal.returns-clause-in_table
returns-clause-in_table c = λ t n k e. (opcode_of-kind_at t n k e).in_table

pub returns-clause-only : goal.returns-clause-only
returns-clause-only c = λ t n k e. (opcode_of-kind_at t n k e).opcode
