use Rattle.std.proofs.Common.{◌≡◌, ◌<◌, List, [], length, take, get_or, subst}
use Rattle.event_queue.specs.declared.queue.Timed.{Timed}
use Rattle.radio_sim.specs.declared.shared_event.SharedEvent.{SharedEvent}
use Rattle.vm_shape.specs.declared.handler.Handler.{Handler}
use Rattle.world_air.specs.Changes.{AddsToAir}
use Rattle.world_air.proofs.ChangeLemmas.{adds-both}
use Rattle.world_air.specs.Starting.{first_periods}
use Rattle.world_air.proofs.StartLemmas.{periods-more}
use Rattle.world_air.proofs.start.schedule_periods.Goals as goal

pub loop-h-preserved : goal.loop-h-preserved
loop-h-preserved c =
    let P : List (Timed SharedEvent) → Type 0 = λ xs. AddsToAir c.args.radio.now c.schedule_period.new.radio [] xs in
    let below : c.loop-h.h < length c.args.desc.now.handlers.items = subst (λ (hs : List Handler). c.loop-h.h < length hs) c.as_slice-handler-items.ensures.value c.loop-h-test.true in
    let is : c.handler-item.result ≡ get_or c.args.desc.now.handlers.items c.loop-h.h c.handler-item.result = subst (λ (hs : List Handler). c.handler-item.result ≡ get_or hs c.loop-h.h c.handler-item.result) c.as_slice-handler-items.ensures.value c.handler-item.is in
    subst P (periods-more c.args.node c.args.desc.now.handlers.items c.loop-h.h c.handler-item.result below is)
    (adds-both c.args.radio.now c.loop-h.radio c.schedule_period.new.radio [] [] (first_periods c.args.node 0 (take c.loop-h.h c.args.desc.now.handlers.items)) _ c.loop-h.invariant c.in_ok-schedule_period.ensures)
