use Rattle.std.proofs.Common.{◌∙◌, sym, subst}
use Rattle.mate_num.specs.declared.outcome.Outcome.{Outcome}
use Rattle.audit_rules.specs.Shown.{HasLengthsOf}
use Rattle.audit_rules.specs.Views.{seat_in}
use Rattle.audit_programs.specs.Trials.{machine_for}
use Rattle.audit_programs.proofs.ReadyLemmas.{run_on-lengths}
use Rattle.audit_programs.proofs.runs.KeptRuns.run.Goals as goal

pub returns-clause-run : goal.returns-clause-run
returns-clause-run c = c.outcome.ensures ∙ c.in_ok-run.ensures.run.1

pub returns-clause-lengths : goal.returns-clause-lengths
returns-clause-lengths c =
    let t = c.args.trial.now in
    let i = (seat_in t.log.now.images c.args.seat.now).invocation in
    subst (λ (o : Outcome). HasLengthsOf (machine_for t) o.store) (sym (c.outcome.ensures ∙ c.in_ok-run.ensures.run.1))
    (run_on-lengths t.desc.now t.programs.now c.args.store.now i c.requires.tried.programs c.requires.lengths)
