use Rattle.radio_sim.specs.declared.shared_event.SharedEvent.TheVariants as radio_event
use Rattle.world_air.proofs.ChangeLemmas.{adds-event}
use Rattle.world_air.proofs.start.plan_line.Goals as goal

pub returns : goal.returns
returns c = adds-event c.args.radio.now c.plan.new.self c.args.time (radio_event.Planned c.args.line) c.in_ok-plan.ensures.list c.in_ok-plan.ensures.due
