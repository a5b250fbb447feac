use Rattle.std.proofs.Common.{sym}
use Rattle.audit_rules.specs.Shown.{agrees_at}
use Rattle.audit_rules.specs.Views.{seat_in}
use Rattle.audit_programs.specs.Trials.{machine_for, IsSeatReady}
use Rattle.audit_programs.proofs.LoopLemmas.{shown, past-shown, of-all, all-more, all-fails, all-done}
use Rattle.report_audit.specs.Waiting.{waiting_store}
use Rattle.report_audit.proofs.ShownLemmas.{map-at, map-below}
use Rattle.report_audit.proofs.showing.all_agree.Goals as goal

pub returns-then-not-agrees_at : goal.returns-then-not-agrees_at
returns-then-not-agrees_at c =
    let t = c.args.trial.now in
    let seats = c.args.roll.now.roll.seats.items in
    let i = c.loop-i.i in
    let r = shown seats c.as_slice-seats.result.now i c.index-seats-i.result c.as_slice-seats.ensures.value c.loop-i-test.true c.index-seats-i.is in
    sym (all-fails (seat_in t.log.now.images) (agrees_at (machine_for t) c.args.store.now c.args.seen.now c.args.at) seats i c.index-seats-i.result r.0 r.1 (sym c.if-not-agrees_at.ensures))

pub loop-i-preserved : goal.loop-i-preserved
loop-i-preserved c =
    let t = c.args.trial.now in
    let seats = c.args.roll.now.roll.seats.items in
    let i = c.loop-i.i in
    let r = shown seats c.as_slice-seats.result.now i c.index-seats-i.result c.as_slice-seats.ensures.value c.loop-i-test.true c.index-seats-i.is in
    all-more (seat_in t.log.now.images) (agrees_at (machine_for t) c.args.store.now c.args.seen.now c.args.at) seats i c.index-seats-i.result r.0 r.1 c.loop-i.invariant (sym c.if-not-agrees_at.ensures)

pub agrees_at-requires-clause-left : goal.agrees_at-requires-clause-left
agrees_at-requires-clause-left c =
    let t = c.args.trial.now in
    let seats = c.args.roll.now.roll.seats.items in
    let i = c.loop-i.i in
    let r = shown seats c.as_slice-seats.result.now i c.index-seats-i.result c.as_slice-seats.ensures.value c.loop-i-test.true c.index-seats-i.is in
    map-at (seat_in t.log.now.images) (waiting_store (machine_for t) c.args.store.now) seats c.args.stores.now i c.index-seats-i.result c.index-stores-i.result c.requires.stores r.0 r.1 c.index-stores-i.is

pub bounds-stores-i : goal.bounds-stores-i
bounds-stores-i c =
    let t = c.args.trial.now in
    let seats = c.args.roll.now.roll.seats.items in
    let i = c.loop-i.i in
    let r = shown seats c.as_slice-seats.result.now i c.index-seats-i.result c.as_slice-seats.ensures.value c.loop-i-test.true c.index-seats-i.is in
    map-below (seat_in t.log.now.images) (waiting_store (machine_for t) c.args.store.now) seats c.args.stores.now i c.requires.stores r.0

pub agrees_at-requires-clause-ready : goal.agrees_at-requires-clause-ready
agrees_at-requires-clause-ready c =
    let seats = c.args.roll.now.roll.seats.items in
    let i = c.loop-i.i in
    let r = shown seats c.as_slice-seats.result.now i c.index-seats-i.result c.as_slice-seats.ensures.value c.loop-i-test.true c.index-seats-i.is in
    of-all (IsSeatReady c.args.trial.now c.args.roll.now) seats i c.index-seats-i.result c.requires.ready r.0 r.1

pub returns : goal.returns
returns c =
    let t = c.args.trial.now in
    let seats = c.args.roll.now.roll.seats.items in
    let past = past-shown seats c.as_slice-seats.result.now c.loop-i.i c.as_slice-seats.ensures.value c.loop-i-test.false in
    sym (all-done (seat_in t.log.now.images) (agrees_at (machine_for t) c.args.store.now c.args.seen.now c.args.at) seats c.loop-i.i past c.loop-i.invariant)
