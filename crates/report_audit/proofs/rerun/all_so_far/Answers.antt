use Rattle.std.proofs.Common.{refl, sym, ◌∙◌}
use Rattle.std.specs.Prelude.{◌||◌, not}
use Rattle.mate_journal.specs.Journal.{is_started}
use Rattle.audit_rules.specs.Rerun.{is_so_far}
use Rattle.audit_rules.specs.Roll as told
use Rattle.audit_rules.specs.Views.{seat_in}
use Rattle.audit_programs.specs.Trials.{machine_for}
use Rattle.audit_programs.proofs.LoopLemmas.{shown, all-more, all-fails}
use Rattle.report_audit.proofs.rerun.all_so_far.Goals as goal

pub returns-then-not-right-clause-right : goal.returns-then-not-right-clause-right
returns-then-not-right-clause-right c =
    let images = c.args.trial.now.log.now.images in
    let seats = c.args.roll.now.roll.seats.items in
    let i = c.loop-seat.seat-index in
    let r = shown seats c.as_slice-seat-items.result.now i c.seat-item.result c.as_slice-seat-items.ensures.value c.loop-seat-test.true c.seat-item.is in
    sym (all-fails (seat_in images) (λ (s : told.Seat). not (is_started s.invocation.phase) || is_so_far (machine_for c.args.trial.now) c.args.store.now s.invocation) seats i c.seat-item.result r.0 r.1 (sym c.in_ok-right.ensures.right ∙ c.if-not-right.true))

pub loop-seat-preserved : goal.loop-seat-preserved
loop-seat-preserved c =
    let images = c.args.trial.now.log.now.images in
    let seats = c.args.roll.now.roll.seats.items in
    let i = c.loop-seat.seat-index in
    let r = shown seats c.as_slice-seat-items.result.now i c.seat-item.result c.as_slice-seat-items.ensures.value c.loop-seat-test.true c.seat-item.is in
    record {
      all = all-more (seat_in images) (λ (s : told.Seat). not (is_started s.invocation.phase) || is_so_far (machine_for c.args.trial.now) c.args.store.now s.invocation) seats i c.seat-item.result r.0 r.1 c.loop-seat.invariant.all (sym c.in_ok-right.ensures.right ∙ c.if-not-right.false);
      runs = c.in_ok-right.ensures.runs;
    }

pub loop-seat-init : goal.loop-seat-init
loop-seat-init c = record { all = refl; runs = c.requires.runs }
