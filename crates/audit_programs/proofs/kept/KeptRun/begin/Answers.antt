use Rattle.std.proofs.Common.{ℤ, List, [], sym, ◌∙◌, ap, subst}
use Rattle.arrayvec.specs.ArrayVec.{ArrayVec}
use Rattle.mate_num.specs.declared.call.Call.{Call}
use Rattle.mate_num.specs.declared.store.Store.{Store}
use Rattle.exec_unit.specs.Machine.{begun}
use Rattle.exec_unit.specs.Step.{HasLengths}
use Rattle.exec_unit.specs.declared.step_end.StepEnd.TheVariants.{Next}
use Rattle.audit_programs.specs.Kept.{IsRun}
use Rattle.audit_programs.proofs.KeptLemmas.{begins}
use Rattle.audit_programs.proofs.kept.KeptRun.begin.Goals as goal

pub returns-clause-run : goal.returns-clause-run
returns-clause-run c = λ v ver long.
    let store : Store = c.copy.result in
    let turns = c.args.turns in
    let run = begins v store c.copy_of.result turns c.new.result (subst (HasLengths v.shape) (sym c.copy.ensures) long)
    (c.new.ensures.value ∙ ap (λ (p : ArrayVec ℤ). begun turns p.items) (c.copy_of-2.ensures ∙ sym c.copy_of.ensures)) (c.new.ensures.fits v ver) in
    subst (λ (cs : List Call). IsRun v.shape v.code store c.copy_of.result turns c.new.result c.heap_of.result cs Next) (sym c.new-2.ensures)
    (subst (λ (h : Store). IsRun v.shape v.code store c.copy_of.result turns c.new.result h [] Next) (c.copy.ensures ∙ sym c.heap_of.ensures) run)
