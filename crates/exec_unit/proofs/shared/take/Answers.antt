use Rattle.exec_unit.specs.Follows.{step_end}
use Rattle.exec_unit.specs.Machine.{private_in}
use Rattle.exec_unit.proofs.OperandLemmas.{taken-Follows}
use Rattle.exec_unit.proofs.shared.take.Goals as goal

pub returns : goal.returns
returns c = λ shape.
    taken-Follows c.take.result c.args.buffer (private_in c.args.registers.now c.args.memory.now) c.args.heap.now c.take.new.self (step_end c.give_or_fault.result) (private_in c.give_or_fault.new.registers c.give_or_fault.new.memory)
    c.give_or_fault.ensures c.take.ensures.value c.take.ensures.rest
