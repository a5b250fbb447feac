use Rattle.std.proofs.Common.{◌≡◌, Bool, ◌∙◌, ap, subst}
use Rattle.std.specs.Prelude.{IfOk}
use Rattle.mate_num.specs.declared.outcome.Outcome.{Outcome}
use Rattle.audit_rules.specs.Rerun.{outcome_is_so_far, run_on, wants_as}
use Rattle.audit_rules.specs.Same.{same_calls}
use Rattle.audit_rules.specs.Views.{phase_in, seat_in}
use Rattle.audit_programs.specs.Trials.{machine_for}
use Rattle.report_audit.proofs.EndLemmas.{and-true, ready-wants}
use Rattle.report_audit.proofs.rerun.is_so_far.Goals as goal

pub returns-then-is-clause-right : goal.returns-then-is-clause-right
returns-then-is-clause-right c =
    let t = c.args.trial.now in
    let i = (seat_in t.log.now.images c.args.seat.now).invocation in
    let o : Outcome = run_on (machine_for t) c.args.store.now i in
    subst (λ (told : Bool). IfOk c.makes_calls.result (λ b. b ≡ told))
    (and-true (same_calls o.calls i.calls) (wants_as (phase_in c.args.seat.now.phase) o.end) (ready-wants c.args.seat.now.phase o.end c.if-is.ensures)) c.makes_calls.ensures.right

pub returns-clause-right : goal.returns-clause-right
returns-clause-right c =
    let images = c.args.trial.now.log.now.images in
    c.outcome_is_so_far.ensures images ∙ ap (λ (o : Outcome). outcome_is_so_far (seat_in images c.args.seat.now).invocation o) c.in_ok-outcome.ensures.run
