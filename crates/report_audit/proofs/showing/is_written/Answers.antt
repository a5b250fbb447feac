use Rattle.std.proofs.Common.{sym}
use Rattle.audit_rules.specs.Shown.{writes_at}
use Rattle.audit_rules.specs.Views.{seat_in}
use Rattle.audit_programs.specs.Trials.{IsSeatReady, machine_for}
use Rattle.audit_programs.proofs.LoopLemmas.{shown, past-shown, of-all, any-more, any-found, any-done}
use Rattle.report_audit.proofs.showing.is_written.Goals as goal

pub writes_at-requires-clause-ready : goal.writes_at-requires-clause-ready
writes_at-requires-clause-ready c =
    let seats = c.args.roll.now.roll.seats.items in
    let i = c.loop-seat.seat-index in
    let r = shown seats c.as_slice-seat-items.result.now i c.seat-item.result c.as_slice-seat-items.ensures.value c.loop-seat-test.true c.seat-item.is in
    of-all (IsSeatReady c.args.trial.now c.args.roll.now) seats i c.seat-item.result c.requires.ready r.0 r.1

pub returns-then-writes_at : goal.returns-then-writes_at
returns-then-writes_at c =
    let images = c.args.trial.now.log.now.images in
    let seats = c.args.roll.now.roll.seats.items in
    let i = c.loop-seat.seat-index in
    let r = shown seats c.as_slice-seat-items.result.now i c.seat-item.result c.as_slice-seat-items.ensures.value c.loop-seat-test.true c.seat-item.is in
    sym (any-found (seat_in images) (writes_at (machine_for c.args.trial.now) c.args.at) seats i c.seat-item.result r.0 r.1 (sym c.if-writes_at.ensures))

pub loop-seat-preserved : goal.loop-seat-preserved
loop-seat-preserved c =
    let images = c.args.trial.now.log.now.images in
    let seats = c.args.roll.now.roll.seats.items in
    let i = c.loop-seat.seat-index in
    let r = shown seats c.as_slice-seat-items.result.now i c.seat-item.result c.as_slice-seat-items.ensures.value c.loop-seat-test.true c.seat-item.is in
    any-more (seat_in images) (writes_at (machine_for c.args.trial.now) c.args.at) seats i c.seat-item.result r.0 r.1 c.loop-seat.invariant (sym c.if-writes_at.ensures)

pub returns : goal.returns
returns c =
    let images = c.args.trial.now.log.now.images in
    let seats = c.args.roll.now.roll.seats.items in
    let i = c.loop-seat.seat-index in
    sym (any-done (seat_in images) (writes_at (machine_for c.args.trial.now) c.args.at) seats i
    (past-shown seats c.as_slice-seat-items.result.now i c.as_slice-seat-items.ensures.value c.loop-seat-test.false) c.loop-seat.invariant)
