-- What a step comes to at an instruction that is known.
use Rattle.std.proofs.Common.{◌≡◌, ℤ, List, [], ap, sym, ◌∙◌}
use Rattle.std.specs.Prelude.{Option}
use Rattle.arrayvec.specs.ArrayVec.{ArrayVec}
use Rattle.mate_num.specs.declared.call.End.TheVariants as end
use Rattle.mate_num.specs.declared.call.FaultKind.{FaultKind}
use Rattle.mate_num.specs.declared.id.FunId.{FunId}
use Rattle.mate_num.specs.declared.store.Store.{Store}
use Rattle.mate_code.specs.declared.instr.Instr.{Instr}
use Rattle.mate_code.specs.Effect.{Private, with_stack}
use Rattle.mate_code.specs.Run.{Own, Run, Over, effect_in, executed_at, own_after_effect}
use Rattle.code_verifier.specs.Verified.{VerifiedCode}
use Rattle.exec_unit.specs.Step.{IsStep, going, own_after}
use Rattle.exec_unit.specs.declared.step_end.StepEnd.{StepEnd}
use Rattle.exec_unit.specs.declared.step_end.StepEnd.TheVariants.{Next, Ask, Halt, Fault}
use Rattle.callers_code.specs.Steps.{StandsAt}

-- a run of the invocation, with no answers
abbrev pub alone : Private → Own
alone p = going p [] [] 0

-- what is left of the invocation is what the effect leaves
pub own_left : (v : VerifiedCode) (p : Private) (s : Store) (i : Instr) (stack : List ℤ) (result : StepEnd) (new : Private) (after : Store)
    → StandsAt v p s i stack → IsStep v p s result new after → own_after_effect (effect_in v.shape i (with_stack stack p) s) (alone p) ≡ own_after result new (alone p)
own_left v p s i stack result new after at step =
    let r : Run = record { own = alone p; store = s } in
    ap (λ (xs : List ℤ). own_after_effect (effect_in v.shape i (with_stack xs p) s) (alone p)) (sym at.stack_is)
    ∙ ap (λ (o : Option Instr). (executed_at v.shape o r).own) (sym at.next) ∙ ap (λ (after : Run). after.own) (step.run [] [] 0)

-- the end of a step whose run is over
pub faulted : (result : StepEnd) (new p : Private) (kind : FaultKind) → Over (end.Fault kind) ≡ (own_after result new (alone p)).status → result ≡ Fault kind
faulted Next new p kind is = cc
faulted _ new p kind is = cc

pub waiting : (result : StepEnd) (new p : Private) (f : FunId) (args : ArrayVec ℤ) → Over (end.Wants f args) ≡ (own_after result new (alone p)).status → result ≡ Ask f args
waiting Next new p f args is = cc
waiting _ new p f args is = cc

-- where the run goes on, this is left of the invocation
pub went : (result : StepEnd) (new p q : Private) → record (alone p) { own = q; count = 1 } ≡ own_after result new (alone p) → new ≡ q
went Next new p q is = sym (ap (λ (o : Own). o.own) is)
went _ new p q is = let over = ap (λ (o : Own). o.status) is in cc
