use Rattle.std.proofs.Common.{rules}
use Rattle.vm_shape.proofs.DescriptionLemmas.{bounds_of}
use Rattle.world_event.proofs.pieces.schedule_pump.Goals as goal

pub overflow_add-now : goal.overflow_add-now
overflow_add-now c =
    let bounds = bounds_of c.args.desc.now in
    let high = bounds.gap_high in
    let hour = c.requires.hour in
    search (rules, high, hour)
