use Rattle.std.proofs.Common.{refl, sym, ◌∙◌}
use Rattle.audit_rules.specs.Rerun.{is_undisturbed}
use Rattle.audit_rules.specs.Tests.{conflict_of}
use Rattle.audit_rules.specs.Views.{seat_in}
use Rattle.audit_programs.specs.Trials.{machine_for, IsSeatReady}
use Rattle.audit_programs.proofs.LoopLemmas.{shown, past-shown, of-all, all-more, all-fails, all-done}
use Rattle.report_audit.proofs.ending.all_undisturbed.Goals as goal

pub returns-then-not-undisturbed-clause-right : goal.returns-then-not-undisturbed-clause-right
returns-then-not-undisturbed-clause-right c =
    let images = c.args.trial.now.log.now.images in
    let seats = c.args.roll.now.roll.seats.items in
    let i = c.loop-seat.seat-index in
    let r = shown seats c.as_slice-seat-items.result.now i c.seat-item.result c.as_slice-seat-items.ensures.value c.loop-seat-test.true c.seat-item.is in
    sym (all-fails (seat_in images) (is_undisturbed (machine_for c.args.trial.now) (conflict_of c.args.trial.now.desc.now) c.args.stores.now.before.now c.args.stores.now.after.now c.args.ended.now.number (seat_in images c.args.ended.now).invocation) seats i c.seat-item.result r.0 r.1 (sym c.in_ok-undisturbed.ensures.right ∙ c.if-not-undisturbed.true))

pub loop-seat-preserved : goal.loop-seat-preserved
loop-seat-preserved c =
    let images = c.args.trial.now.log.now.images in
    let seats = c.args.roll.now.roll.seats.items in
    let i = c.loop-seat.seat-index in
    let r = shown seats c.as_slice-seat-items.result.now i c.seat-item.result c.as_slice-seat-items.ensures.value c.loop-seat-test.true c.seat-item.is in
    record {
      all = all-more (seat_in images) (is_undisturbed (machine_for c.args.trial.now) (conflict_of c.args.trial.now.desc.now) c.args.stores.now.before.now c.args.stores.now.after.now c.args.ended.now.number (seat_in images c.args.ended.now).invocation) seats i c.seat-item.result r.0 r.1 c.loop-seat.invariant.all (sym c.in_ok-undisturbed.ensures.right ∙ c.if-not-undisturbed.false);
      runs = c.in_ok-undisturbed.ensures.runs;
    }

pub is_undisturbed-requires-clause-ready : goal.is_undisturbed-requires-clause-ready
is_undisturbed-requires-clause-ready c =
    let seats = c.args.roll.now.roll.seats.items in
    let i = c.loop-seat.seat-index in
    let r = shown seats c.as_slice-seat-items.result.now i c.seat-item.result c.as_slice-seat-items.ensures.value c.loop-seat-test.true c.seat-item.is in
    of-all (IsSeatReady c.args.trial.now c.args.roll.now) seats i c.seat-item.result c.requires.ready r.0 r.1

pub returns-clause-right : goal.returns-clause-right
returns-clause-right c =
    let images = c.args.trial.now.log.now.images in
    let seats = c.args.roll.now.roll.seats.items in
    let i = c.loop-seat.seat-index in
    let past = past-shown seats c.as_slice-seat-items.result.now i c.as_slice-seat-items.ensures.value c.loop-seat-test.false in
    sym (all-done (seat_in images) (is_undisturbed (machine_for c.args.trial.now) (conflict_of c.args.trial.now.desc.now) c.args.stores.now.before.now c.args.stores.now.after.now c.args.ended.now.number (seat_in images c.args.ended.now).invocation) seats i past c.loop-seat.invariant.all)

pub loop-seat-init : goal.loop-seat-init
loop-seat-init c = record { all = refl; runs = c.requires.runs }
