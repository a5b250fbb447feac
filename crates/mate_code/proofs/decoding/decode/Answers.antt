use Rattle.std.proofs.Common.{arith}
use Rattle.mate_code.proofs.DecodeLaws.{found_is, fault_at}
use Rattle.mate_code.proofs.decoding.decode.Goals as goal

pub returns-clause-encoding : goal.returns-clause-encoding
returns-clause-encoding c = found_is c.args.table.now c.args.bytes.now c.read_all.result (λ i. omega (arith, c.type_inv.bytes i)) c.read_all.ensures

pub returns-clause-fault : goal.returns-clause-fault
returns-clause-fault c = fault_at c.args.table.now c.args.bytes.now c.read_all.result (λ i. omega (arith, c.type_inv.bytes i)) c.read_all.ensures
