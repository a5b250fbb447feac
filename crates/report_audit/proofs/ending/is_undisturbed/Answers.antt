use Rattle.std.proofs.Common.{◌≡◌, Bool, sym, ◌∙◌, ap, subst}
use Rattle.std.specs.Prelude.{IfOk, ◌&&◌}
use Rattle.mate_journal.specs.Journal.{Invocation}
use Rattle.audit_rules.specs.Rerun.{is_so_far}
use Rattle.audit_rules.specs.Tests.{conflict_of}
use Rattle.audit_rules.specs.Views.{seat_in}
use Rattle.audit_programs.specs.Trials.{machine_for}
use Rattle.report_audit.proofs.EndLemmas.{queued-as, undisturbed-own, undisturbed-queued, undisturbed-apart, undisturbed-runs}
use Rattle.report_audit.proofs.ending.is_undisturbed.Goals as goal
use Rattle.report_audit.proofs.ending.is_undisturbed.Goals.{then-seat-ended-via-then-seat-ended, then-seat-ended-via-else-seat-ended+then-is}

pub returns-then-seat-ended-clause-right : goal.returns-then-seat-ended-clause-right
returns-then-seat-ended-clause-right c =
    let t = c.args.trial.now in
    let images = t.log.now.images in
    elim c.then-seat-ended.branch [
      | then-seat-ended-via-then-seat-ended w ↦ undisturbed-own (machine_for t) (conflict_of t.desc.now) c.args.stores.now.before.now c.args.stores.now.after.now c.args.ended.now.number (seat_in images c.args.ended.now).invocation (seat_in images c.args.seat.now) w.if-seat-ended.true
      | then-seat-ended-via-else-seat-ended+then-is w ↦ undisturbed-queued (machine_for t) (conflict_of t.desc.now) c.args.stores.now.before.now c.args.stores.now.after.now c.args.ended.now.number (seat_in images c.args.ended.now).invocation (seat_in images c.args.seat.now) w.if-seat-ended.false (w.if-is.ensures ∙ queued-as c.args.seat.now.phase)
    ]

pub returns-then-not-conflict-clause-right : goal.returns-then-not-conflict-clause-right
returns-then-not-conflict-clause-right c =
    let t = c.args.trial.now in
    let images = t.log.now.images in
    undisturbed-apart (machine_for t) (conflict_of t.desc.now) c.args.stores.now.before.now c.args.stores.now.after.now c.args.ended.now.number (seat_in images c.args.ended.now).invocation (seat_in images c.args.seat.now) c.if-seat-ended.false (c.if-is.ensures ∙ queued-as c.args.seat.now.phase) c.if-not-conflict.ensures

pub returns-then-not-branch-clause-right : goal.returns-then-not-branch-clause-right
returns-then-not-branch-clause-right c =
    let t = c.args.trial.now in
    let images = t.log.now.images in
    let i : Invocation = (seat_in images c.args.seat.now).invocation in
    ap (λ (b : Bool). b && is_so_far (machine_for t) c.args.stores.now.after.now i) (sym c.if-not-branch.true ∙ c.in_ok-is_so_far.ensures.right)
    ∙ undisturbed-runs (machine_for t) (conflict_of t.desc.now) c.args.stores.now.before.now c.args.stores.now.after.now c.args.ended.now.number (seat_in images c.args.ended.now).invocation (seat_in images c.args.seat.now) c.if-seat-ended.false (c.if-is.ensures ∙ queued-as c.args.seat.now.phase) c.if-not-conflict.ensures

pub returns-clause-right : goal.returns-clause-right
returns-clause-right c =
    let t = c.args.trial.now in
    let images = t.log.now.images in
    let i : Invocation = (seat_in images c.args.seat.now).invocation in
    subst (λ (told : Bool). IfOk c.is_so_far-2.result (λ b. b ≡ told))
    (ap (λ (b : Bool). b && is_so_far (machine_for t) c.args.stores.now.after.now i) (sym c.if-not-branch.false ∙ c.in_ok-is_so_far.ensures.right)
    ∙ undisturbed-runs (machine_for t) (conflict_of t.desc.now) c.args.stores.now.before.now c.args.stores.now.after.now c.args.ended.now.number (seat_in images c.args.ended.now).invocation (seat_in images c.args.seat.now) c.if-seat-ended.false (c.if-is.ensures ∙ queued-as c.args.seat.now.phase) c.if-not-conflict.ensures)
    c.is_so_far-2.ensures.right
