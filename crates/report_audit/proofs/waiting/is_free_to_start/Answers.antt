use Rattle.std.proofs.Common.{sym}
use Rattle.std.specs.Prelude.{◌||◌, ◌==◌, not}
use Rattle.audit_rules.specs.Granting.{is_held_back}
use Rattle.audit_rules.specs.Roll as told
use Rattle.audit_rules.specs.Tests.{conflict_of}
use Rattle.audit_rules.specs.Views.{seat_in, roll_in}
use Rattle.audit_programs.specs.Trials.{IsSeatReady}
use Rattle.audit_programs.proofs.LoopLemmas.{shown, past-shown, of-all, all-more, all-fails, all-done}
use Rattle.report_audit.proofs.waiting.is_free_to_start.Goals as goal

pub starts_rightly-requires-clause-seat : goal.starts_rightly-requires-clause-seat
starts_rightly-requires-clause-seat c =
    let seats = c.args.roll.now.roll.seats.items in
    let i = c.loop-seat.seat-index in
    let r = shown seats c.as_slice-seat-items.result.now i c.seat-item.result c.as_slice-seat-items.ensures.value c.loop-seat-test.true c.seat-item.is in
    of-all (IsSeatReady c.args.trial.now c.args.roll.now) seats i c.seat-item.result c.requires r.0 r.1

pub returns-then-not-starts_rightly : goal.returns-then-not-starts_rightly
returns-then-not-starts_rightly c =
    let images = c.args.trial.now.log.now.images in
    let seats = c.args.roll.now.roll.seats.items in
    let i = c.loop-seat.seat-index in
    let r = shown seats c.as_slice-seat-items.result.now i c.seat-item.result c.as_slice-seat-items.ensures.value c.loop-seat-test.true c.seat-item.is in
    sym (all-fails (seat_in images) (λ (s : told.Seat). not (s.number == c.args.number) || not (is_held_back (conflict_of c.args.trial.now.desc.now) (roll_in images c.args.roll.now.roll) s)) seats i c.seat-item.result r.0 r.1 (sym c.if-not-starts_rightly.ensures))

pub loop-seat-preserved : goal.loop-seat-preserved
loop-seat-preserved c =
    let images = c.args.trial.now.log.now.images in
    let seats = c.args.roll.now.roll.seats.items in
    let i = c.loop-seat.seat-index in
    let r = shown seats c.as_slice-seat-items.result.now i c.seat-item.result c.as_slice-seat-items.ensures.value c.loop-seat-test.true c.seat-item.is in
    all-more (seat_in images) (λ (s : told.Seat). not (s.number == c.args.number) || not (is_held_back (conflict_of c.args.trial.now.desc.now) (roll_in images c.args.roll.now.roll) s)) seats i c.seat-item.result r.0 r.1 c.loop-seat.invariant (sym c.if-not-starts_rightly.ensures)

pub returns : goal.returns
returns c =
    let images = c.args.trial.now.log.now.images in
    let seats = c.args.roll.now.roll.seats.items in
    let i = c.loop-seat.seat-index in
    sym (all-done (seat_in images) (λ (s : told.Seat). not (s.number == c.args.number) || not (is_held_back (conflict_of c.args.trial.now.desc.now) (roll_in images c.args.roll.now.roll) s)) seats i
    (past-shown seats c.as_slice-seat-items.result.now i c.as_slice-seat-items.ensures.value c.loop-seat-test.false) c.loop-seat.invariant)
