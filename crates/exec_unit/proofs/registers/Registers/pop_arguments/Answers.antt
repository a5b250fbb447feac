use Rattle.std.proofs.Common.{◌-◌, ℤ, List, take, ap, arith}
use Rattle.mate_code.specs.Effect.{with_stack}
use Rattle.exec_unit.specs.Machine.{private_in}
use Rattle.exec_unit.proofs.MachineLemmas.{arguments-is, without-arguments}
use Rattle.exec_unit.proofs.registers.Registers.pop_arguments.Goals as goal

pub returns-clause-value : goal.returns-clause-value
unfolding private_in
returns-clause-value c =
    arguments-is (take c.args.self.now.depth c.args.memory.now.stack) c.between-values.result.now c.in-Ok.args.items (c.args.self.now.depth - c.from.result) c.args.count c.min-room.result
    c.between-values.ensures.value (omega (arith, c.between-values.ensures.len)) (omega (arith, c.between-values.ensures.len)) c.min-room.ensures c.in-Ok.ensures.0

pub returns-clause-left : goal.returns-clause-left
unfolding private_in
returns-clause-left c =
    let left = without-arguments c.args.memory.now.stack (c.args.self.now.depth - c.from.result) c.args.self.now.depth c.args.count c.between-values.ensures.len (omega arith) (omega arith) in
    ap (λ (xs : List ℤ). with_stack xs (private_in c.args.self.now c.args.memory.now)) left
