use Rattle.std.proofs.Common.{[], ◌∷◌, ap}
use Rattle.std.specs.Prelude.{pos}
use Rattle.mate_code.specs.declared.instr.Instr.TheVariants.{Jz}
use Rattle.mate_code.specs.Effect.{Private, at_place, with_stack}
use Rattle.callers_code.proofs.StepLemmas.{own_left, went}
use Rattle.callers_code.proofs.steps.a_branch_is_taken_at_0.Goals as goal

pub returns : goal.returns
returns c =
    ap (λ (p : Private). p.pc) (went c.step.result c.step.new.machine c.args.machine.now (at_place 9 (with_stack [] c.args.machine.now))
    (own_left c.args.code.now c.args.machine.now c.args.heap.now (Jz 9) (pos 0 ∷ []) c.step.result c.step.new.machine c.step.new.heap c.requires c.step.ensures))
