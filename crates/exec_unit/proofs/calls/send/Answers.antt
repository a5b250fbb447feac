use Rattle.std.proofs.Common.{refl, sym, rules}
use Rattle.exec_unit.specs.Machine.{private_in}
use Rattle.exec_unit.proofs.MachineLemmas.{pc-is}
use Rattle.exec_unit.proofs.OperandLemmas.{at}
use Rattle.exec_unit.proofs.StepLemmas.{did-IsStep, same-instr}
use Rattle.exec_unit.proofs.calls.send.Goals as goal

pub returns-clause-step : goal.returns-clause-step
returns-clause-step c =
    let shape = c.args.code.now.shape in
    did-IsStep c.args.code.now shape c.args.registers.now.place c.at-instr.result.now (private_in c.args.registers.now c.args.memory.now) _
    c.args.heap.now c.args.heap.now c.take_values.result c.requires.fits c.requires.lengths (sym (pc-is c.args.registers.now c.args.memory.now))
    c.at-instr.ensures.value c.at-instr.ensures.right c.at-instr.ensures.fits refl
    (at shape c.args.registers.now.place (private_in c.args.registers.now c.args.memory.now) (private_in c.past.result.now c.args.memory.now)
    c.args.heap.now c.take_values.result (private_in c.take_values.new.registers c.take_values.new.memory) c.args.heap.now
    (search rules) (same-instr c.at-instr.ensures.value c.requires.sends) (c.past.ensures.value c.args.memory.now) (c.take_values.ensures.does shape))
