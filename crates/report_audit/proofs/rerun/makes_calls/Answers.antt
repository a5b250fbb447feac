use Rattle.std.proofs.Common.{◌∙◌, List, ap}
use Rattle.mate_num.specs.declared.call.Call.{Call}
use Rattle.audit_rules.specs.Same.{same_calls}
use Rattle.audit_rules.specs.Views.{seat_in}
use Rattle.report_audit.proofs.rerun.makes_calls.Goals as goal

pub returns-clause-right : goal.returns-clause-right
returns-clause-right c =
    let i = (seat_in c.args.trial.now.log.now.images c.args.seat.now).invocation in
    c.same_calls.ensures
    ∙ ap (λ (cs : List Call). same_calls c.as_slice.result.now cs) c.as_slice-2.ensures
    ∙ ap (λ (cs : List Call). same_calls cs i.calls) (c.as_slice.ensures ∙ c.in_ok-calls.ensures.calls)
