use Rattle.std.proofs.Common.{◌≡◌, ap, sym, arith, rules}
use Rattle.mate_code.specs.declared.instr.Instr.{Instr}
use Rattle.mate_code.specs.Effect.{args_of}
use Rattle.mate_code.specs.Flow.{pops_of}
use Rattle.exec_unit.specs.Machine.{private_in}
use Rattle.exec_unit.proofs.MachineLemmas.{pc-is}
use Rattle.exec_unit.proofs.OperandLemmas.{at}
use Rattle.exec_unit.proofs.StepLemmas.{did-IsStep, has-operands, same-instr}
use Rattle.exec_unit.proofs.calls.ask.Goals as goal

pub take_arguments-requires : goal.take_arguments-requires
take_arguments-requires c =
    let shape = c.shape.result.now in
    let is = same-instr c.at-instr.ensures.value c.requires.asks in
    let e : pops_of shape c.at-instr.result.now ≡ args_of shape c.args.fun = ap (λ (i : Instr). pops_of shape i) is in
    let h = has-operands c.args.code.now c.args.registers.now c.args.memory.now c.at-instr.result.now c.requires.fits c.has_depth.ensures c.at-instr.ensures.right c.shape.ensures.value in
    omega (arith, c.past.ensures.depth)

pub returns-clause-step : goal.returns-clause-step
returns-clause-step c =
    did-IsStep c.args.code.now c.shape.result.now c.args.registers.now.place c.at-instr.result.now (private_in c.args.registers.now c.args.memory.now) _
    c.args.heap.now c.args.heap.now c.take_arguments.result c.requires.fits c.requires.lengths (sym (pc-is c.args.registers.now c.args.memory.now))
    c.at-instr.ensures.value c.at-instr.ensures.right c.at-instr.ensures.fits c.shape.ensures.value
    (at c.shape.result.now c.args.registers.now.place (private_in c.args.registers.now c.args.memory.now) (private_in c.past.result.now c.args.memory.now)
    c.args.heap.now c.take_arguments.result (private_in c.take_arguments.new.registers c.take_arguments.new.memory) c.args.heap.now
    (search rules) (same-instr c.at-instr.ensures.value c.requires.asks) (c.past.ensures.value c.args.memory.now) (c.take_arguments.ensures.does c.args.heap.now))
