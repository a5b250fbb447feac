use Rattle.std.proofs.Common.{◌∙◌, ◌++◌, ◌∷◌, [], Option, ap}
use Rattle.mate_num.specs.declared.store.Store.{Store}
use Rattle.audit_rules.specs.Views.{seat_in}
use Rattle.audit_programs.specs.Trials.{machine_for, IsSeatReady}
use Rattle.audit_programs.proofs.LoopLemmas.{shown, past-shown, of-all}
use Rattle.report_audit.specs.Waiting.{waiting_store}
use Rattle.report_audit.proofs.ShownLemmas.{map-more, map-done}
use Rattle.report_audit.proofs.showing.waiting_stores.Goals as goal

pub loop-seat-preserved : goal.loop-seat-preserved
loop-seat-preserved c =
    let t = c.args.trial.now in
    let seats = c.args.roll.now.roll.seats.items in
    let i = c.loop-seat.seat-index in
    let r = shown seats c.as_slice-seat-items.result.now i c.seat-item.result c.as_slice-seat-items.ensures.value c.loop-seat-test.true c.seat-item.is in
    record {
      stores = c.in_ok-push.ensures.items
          ∙ ap (λ (o : Option Store). c.loop-seat.stores.items ++ o ∷ []) c.in_ok-left.ensures.left
          ∙ map-more (seat_in t.log.now.images) (waiting_store (machine_for t) c.args.store.now) seats i c.seat-item.result c.loop-seat.stores.items r.0 r.1 c.loop-seat.invariant.stores;
      runs = c.in_ok-left.ensures.runs;
    }

pub loop-seat-init : goal.loop-seat-init
loop-seat-init c = record { stores = c.new-stores.ensures.items; runs = c.requires.runs }

pub left_waiting-requires-clause-ready : goal.left_waiting-requires-clause-ready
left_waiting-requires-clause-ready c =
    let seats = c.args.roll.now.roll.seats.items in
    let i = c.loop-seat.seat-index in
    let r = shown seats c.as_slice-seat-items.result.now i c.seat-item.result c.as_slice-seat-items.ensures.value c.loop-seat-test.true c.seat-item.is in
    of-all (IsSeatReady c.args.trial.now c.args.roll.now) seats i c.seat-item.result c.requires.ready r.0 r.1

pub returns-clause-stores : goal.returns-clause-stores
returns-clause-stores c =
    let t = c.args.trial.now in
    let seats = c.args.roll.now.roll.seats.items in
    let i = c.loop-seat.seat-index in
    let past = past-shown seats c.as_slice-seat-items.result.now i c.as_slice-seat-items.ensures.value c.loop-seat-test.false in
    map-done (seat_in t.log.now.images) (waiting_store (machine_for t) c.args.store.now) seats i c.loop-seat.stores.items past c.loop-seat.invariant.stores
