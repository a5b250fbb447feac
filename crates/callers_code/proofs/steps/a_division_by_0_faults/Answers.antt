use Rattle.std.proofs.Common.{[], ◌∷◌, ap}
use Rattle.std.specs.Prelude.{pos}
use Rattle.mate_num.specs.declared.call.FaultKind.TheVariants.{DivZero}
use Rattle.mate_code.specs.declared.instr.Instr.TheVariants.{Div}
use Rattle.mate_code.specs.Run.{Own}
use Rattle.callers_code.proofs.StepLemmas.{own_left, faulted}
use Rattle.callers_code.proofs.steps.a_division_by_0_faults.Goals as goal

pub returns : goal.returns
returns c =
    faulted c.step.result c.step.new.machine c.args.machine.now DivZero
    (ap (λ (o : Own). o.status) (own_left c.args.code.now c.args.machine.now c.args.heap.now Div (pos 0 ∷ pos 5 ∷ []) c.step.result c.step.new.machine c.step.new.heap c.requires c.step.ensures))
