use Rattle.std.proofs.Common.{[], ap}
use Rattle.mate_num.specs.Store.{buffer_at, payload}
use Rattle.mate_code.specs.declared.instr.Instr.TheVariants.{FunBuf}
use Rattle.mate_code.specs.Run.{Own}
use Rattle.callers_code.proofs.StepLemmas.{own_left, waiting}
use Rattle.callers_code.proofs.steps.a_send_has_the_values_of_its_buffer.Goals as goal

pub returns : goal.returns
returns c =
    waiting c.step.result c.step.new.machine c.args.machine.now c.args.fun (payload (buffer_at c.args.heap.now 1))
    (ap (λ (o : Own). o.status) (own_left c.args.code.now c.args.machine.now c.args.heap.now (FunBuf c.args.fun (record { 0 = 1 })) [] c.step.result c.step.new.machine c.step.new.heap c.requires c.step.ensures))
