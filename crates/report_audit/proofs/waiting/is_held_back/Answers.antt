use Rattle.std.proofs.Common.{sym}
use Rattle.audit_rules.specs.Granting.{holds_back}
use Rattle.audit_rules.specs.Tests.{conflict_of}
use Rattle.audit_rules.specs.Views.{seat_in}
use Rattle.audit_programs.specs.Trials.{IsSeatReady}
use Rattle.audit_programs.proofs.LoopLemmas.{shown, past-shown, of-all, any-more, any-found, any-done}
use Rattle.report_audit.proofs.waiting.is_held_back.Goals as goal

pub holds_back-requires-clause-other : goal.holds_back-requires-clause-other
holds_back-requires-clause-other c =
    let seats = c.args.roll.now.roll.seats.items in
    let i = c.loop-other.other-index in
    let r = shown seats c.as_slice-other-items.result.now i c.other-item.result c.as_slice-other-items.ensures.value c.loop-other-test.true c.other-item.is in
    of-all (IsSeatReady c.args.trial.now c.args.roll.now) seats i c.other-item.result c.requires.ready r.0 r.1

pub returns-then-holds_back : goal.returns-then-holds_back
returns-then-holds_back c =
    let images = c.args.trial.now.log.now.images in
    let seats = c.args.roll.now.roll.seats.items in
    let i = c.loop-other.other-index in
    let r = shown seats c.as_slice-other-items.result.now i c.other-item.result c.as_slice-other-items.ensures.value c.loop-other-test.true c.other-item.is in
    sym (any-found (seat_in images) (holds_back (conflict_of c.args.trial.now.desc.now) (seat_in images c.args.queued.now)) seats i c.other-item.result r.0 r.1 (sym c.if-holds_back.ensures))

pub loop-other-preserved : goal.loop-other-preserved
loop-other-preserved c =
    let images = c.args.trial.now.log.now.images in
    let seats = c.args.roll.now.roll.seats.items in
    let i = c.loop-other.other-index in
    let r = shown seats c.as_slice-other-items.result.now i c.other-item.result c.as_slice-other-items.ensures.value c.loop-other-test.true c.other-item.is in
    any-more (seat_in images) (holds_back (conflict_of c.args.trial.now.desc.now) (seat_in images c.args.queued.now)) seats i c.other-item.result r.0 r.1 c.loop-other.invariant (sym c.if-holds_back.ensures)

pub returns : goal.returns
returns c =
    let images = c.args.trial.now.log.now.images in
    let seats = c.args.roll.now.roll.seats.items in
    let i = c.loop-other.other-index in
    sym (any-done (seat_in images) (holds_back (conflict_of c.args.trial.now.desc.now) (seat_in images c.args.queued.now)) seats i
    (past-shown seats c.as_slice-other-items.result.now i c.as_slice-other-items.ensures.value c.loop-other-test.false) c.loop-other.invariant)
