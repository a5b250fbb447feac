use Rattle.std.proofs.Common.{Some, sym, ◌∙◌, ap, subst}
use Rattle.std.specs.Prelude.{unwrap_or}
use Rattle.mate_num.specs.declared.outcome.Outcome.{Outcome}
use Rattle.audit_rules.specs.Shown.{HasLengthsOf}
use Rattle.audit_rules.specs.Tests.{conflict_of}
use Rattle.audit_rules.specs.Views.{seat_in, roll_in}
use Rattle.audit_programs.specs.Trials.{machine_for}
use Rattle.report_audit.proofs.EndLemmas.{ended-by, ended-not, ended-wrong, ended-right}
use Rattle.report_audit.proofs.ending.ends_right.Goals as goal

pub returns-then-not-ends_so-clause-right : goal.returns-then-not-ends_so-clause-right
returns-then-not-ends_so-clause-right c =
    let t = c.args.trial.now in
    let m = machine_for t in
    let x = roll_in t.log.now.images c.args.roll.now.roll in
    let z = seat_in t.log.now.images c.args.ended.now in (
      sym (ended-not m (conflict_of t.desc.now) x c.args.store.now c.args.how.now z c.in_ok-outcome.outcome c.ends_so.result c.in_ok-outcome.ensures.run c.ends_so.ensures c.if-not-ends_so.true),
      λ never. absurd (cc),
    )

pub returns-then-not-undisturbed-clause-right : goal.returns-then-not-undisturbed-clause-right
returns-then-not-undisturbed-clause-right c =
    let t = c.args.trial.now in
    let m = machine_for t in
    let conflict = conflict_of t.desc.now in
    let x = roll_in t.log.now.images c.args.roll.now.roll in
    let z = seat_in t.log.now.images c.args.ended.now in (
      sym (ended-wrong m conflict x c.args.store.now c.args.how.now z c.ends_so.result c.in_ok-undisturbed.undisturbed
          (ended-by m conflict x c.args.store.now c.args.how.now z c.in_ok-outcome.outcome c.ends_so.result c.in_ok-undisturbed.undisturbed c.in_ok-outcome.ensures.run c.ends_so.ensures c.in_ok-undisturbed.ensures.right)
          c.if-not-undisturbed.true),
      λ never. absurd (cc),
    )

pub returns-clause-right : goal.returns-clause-right
returns-clause-right c =
    let t = c.args.trial.now in
    let m = machine_for t in
    let conflict = conflict_of t.desc.now in
    let x = roll_in t.log.now.images c.args.roll.now.roll in
    let z = seat_in t.log.now.images c.args.ended.now in (
      sym (ended-right m conflict x c.args.store.now c.args.how.now z c.ends_so.result c.in_ok-undisturbed.undisturbed
          (ended-by m conflict x c.args.store.now c.args.how.now z c.in_ok-outcome.outcome c.ends_so.result c.in_ok-undisturbed.undisturbed c.in_ok-outcome.ensures.run c.ends_so.ensures c.in_ok-undisturbed.ensures.right)
          c.if-not-ends_so.false c.if-not-undisturbed.false),
      λ right. (
        c.keep_first.ensures ∙ ap (λ (o : Outcome). Some (unwrap_or c.args.left.now o.store)) c.in_ok-outcome.ensures.run,
        subst (λ (o : Outcome). HasLengthsOf m o.store) c.in_ok-outcome.ensures.run c.in_ok-outcome.ensures.lengths,
      ),
    )
