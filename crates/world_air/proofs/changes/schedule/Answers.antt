use Rattle.world_air.proofs.ChangeLemmas.{adds-event}
use Rattle.world_air.proofs.changes.schedule.Goals as goal

pub returns : goal.returns
returns c = adds-event c.args.radio.now c.schedule_shared.new.self c.args.time c.args.event c.in_ok-schedule_shared.ensures.list c.in_ok-schedule_shared.ensures.due
