use Rattle.std.proofs.Common.{arith}
use Rattle.command_steps.proofs.code.bytes_are_in_range.Goals as goal

pub returns : goal.returns
returns c = λ i. omega (arith, c.type_inv.bytes i)
