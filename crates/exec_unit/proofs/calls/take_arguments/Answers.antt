use Rattle.std.proofs.Common.{arith}
use Rattle.exec_unit.specs.Machine.{private_in}
use Rattle.exec_unit.proofs.OperandLemmas.{asked-DoesIn}
use Rattle.exec_unit.proofs.calls.take_arguments.Goals as goal

pub returns-clause-does : goal.returns-clause-does
returns-clause-does c = λ store.
    asked-DoesIn c.args.shape.now c.args.fun c.args-2.result (private_in c.args.registers.now c.args.memory.now) (private_in c.pop_arguments-args.new.self c.args.memory.now) c.pop_arguments-args.result store
    c.args-2.ensures (omega (arith, c.has_depth.ensures, c.args-2.ensures)) c.pop_arguments-args.ensures.value c.pop_arguments-args.ensures.left
