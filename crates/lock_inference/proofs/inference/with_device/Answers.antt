use Rattle.std.proofs.lemmas.Bool.{lt-ltb}
use Rattle.mate_num.specs.declared.resource.Resource.TheVariants.{Device}
use Rattle.vm_shape.specs.Shapes.{shape_of}
use Rattle.lock_inference.proofs.GainLemmas.{Gains-changes, Gains-calls, Gains-calls_none}
use Rattle.lock_inference.proofs.inference.with_device.Goals as goal

pub with_write-requires : goal.with_write-requires
with_write-requires c = lt-ltb c.in-Some.device.0 8 c.in-Some.ensures.below

pub returns-in-Some : goal.returns-in-Some
returns-in-Some c =
    let shape = shape_of c.args.desc.now in
    Gains-calls shape c.args.set c.with_write.result c.args.fun c.in-Some.device c.in-Some.ensures.value
    (Gains-changes shape c.args.set c.with_write.result (Device c.in-Some.device) c.with_write.ensures.reads c.with_write.ensures.writes)

pub returns-in-None : goal.returns-in-None
returns-in-None c = Gains-calls_none (shape_of c.args.desc.now) c.args.set c.args.fun c.in-None.ensures.value
