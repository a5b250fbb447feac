use Rattle.std.proofs.Common.{◌≡◌, ◌<◌, List, [], length, take, get_or, subst}
use Rattle.event_queue.specs.declared.queue.Timed.{Timed}
use Rattle.radio_sim.specs.declared.shared_event.SharedEvent.{SharedEvent}
use Rattle.script_steps.specs.declared.world.Planned.{Planned}
use Rattle.world_air.specs.Changes.{AddsToAir}
use Rattle.world_air.proofs.ChangeLemmas.{adds-both}
use Rattle.world_air.specs.Starting.{planned_items}
use Rattle.world_air.proofs.StartLemmas.{planned-more}
use Rattle.world_air.proofs.start.schedule_lines.Goals as goal

pub loop-line-preserved : goal.loop-line-preserved
loop-line-preserved c =
    let P : List (Timed SharedEvent) → Type 0 = λ xs. AddsToAir c.args.radio.now c.plan_line.new.radio [] xs in
    let below : c.loop-line.line < length c.args.world.now.events = subst (λ (ps : List Planned). c.loop-line.line < length ps) c.as_slice-planned-items.ensures c.loop-line-test.true in
    let is : c.planned-item.result ≡ get_or c.args.world.now.events c.loop-line.line c.planned-item.result = subst (λ (ps : List Planned). c.planned-item.result ≡ get_or ps c.loop-line.line c.planned-item.result) c.as_slice-planned-items.ensures c.planned-item.is in
    subst P (planned-more c.args.world.now.events c.loop-line.line c.planned-item.result below is)
    (adds-both c.args.radio.now c.loop-line.radio c.plan_line.new.radio [] [] (planned_items 0 (take c.loop-line.line c.args.world.now.events)) _ c.loop-line.invariant c.in_ok-plan_line.ensures)
