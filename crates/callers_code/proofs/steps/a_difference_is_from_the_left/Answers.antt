use Rattle.std.proofs.Common.{◌+◌, [], ◌∷◌, ap}
use Rattle.std.specs.Prelude.{pos, negsuc}
use Rattle.std.specs.Int.{int_wrap}
use Rattle.mate_code.specs.declared.instr.Instr.TheVariants.{Sub}
use Rattle.mate_code.specs.Effect.{Private, at_place, with_stack}
use Rattle.callers_code.proofs.StepLemmas.{own_left, went}
use Rattle.callers_code.proofs.steps.a_difference_is_from_the_left.Goals as goal

pub returns : goal.returns
unfolding int_wrap
returns c =
    ap (λ (p : Private). p.stack) (went c.step.result c.step.new.machine c.args.machine.now (at_place (c.args.machine.now.pc + 1) (with_stack (negsuc 1 ∷ []) c.args.machine.now))
    (own_left c.args.code.now c.args.machine.now c.args.heap.now Sub (pos 5 ∷ pos 3 ∷ []) c.step.result c.step.new.machine c.step.new.heap c.requires c.step.ensures))
