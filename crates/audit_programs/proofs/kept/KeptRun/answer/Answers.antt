use Rattle.std.proofs.Common.{ℤ, List, refl, sym, ◌∙◌, ap, subst}
use Rattle.mate_num.specs.declared.call.Call.{Call}
use Rattle.mate_code.specs.Effect.{Private, push}
use Rattle.code_verifier.specs.Verified.{VerifiedCode}
use Rattle.exec_unit.specs.declared.step_end.StepEnd.{StepEnd}
use Rattle.exec_unit.specs.declared.step_end.StepEnd.TheVariants.{Next}
use Rattle.audit_programs.specs.declared.kept.KeptRun.{KeptRun}
use Rattle.audit_programs.specs.Kept.{answers_to, IsRun}
use Rattle.audit_programs.proofs.KeptLemmas.{answered, answers-more}
use Rattle.audit_programs.proofs.kept.KeptRun.answer.Goals as goal

pub returns : goal.returns
returns c =
    let v : VerifiedCode = c.args.code.now in
    let k : KeptRun = c.args.self.now in
    let turns = c.args.turns in
    let a : ℤ = c.args.value.now in
    let waits = subst (λ (h : StepEnd). IsRun v.shape v.code k.base k.payload turns k.machine k.heap k.calls h) c.in-Ask.is c.requires in
    let run = answered v k.base k.payload turns k.machine k.heap k.calls c.in-Ask.fun c.in-Ask.args a waits in
    record {
      same = record { program = refl; payload = refl; base = refl };
      run = subst (λ (p : Private). IsRun v.shape v.code k.base k.payload turns p k.heap c.list.new.calls Next) (sym c.give.ensures)
          (subst (λ (cs : List Call). IsRun v.shape v.code k.base k.payload turns (push a k.machine) k.heap cs Next) (sym c.in_ok-list.ensures) run);
      answers = ap (λ (cs : List Call). answers_to cs) c.in_ok-list.ensures ∙ answers-more k.calls record { fun = c.in-Ask.fun; args = c.in-Ask.args; result = a };
    }
