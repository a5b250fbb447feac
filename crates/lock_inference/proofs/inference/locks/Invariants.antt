use Rattle.std.proofs.Common.{◌-◌}
use Rattle.vm_shape.specs.Shapes.{shape_of}
use Rattle.lock_inference.specs.Locks.{IsGathered}
use Rattle.lock_inference.proofs.inference.locks.Given as goal

abbrev pub invariant-instrs : goal.invariant-instrs
invariant-instrs l = IsGathered (shape_of l.desc) l.code.code l.place l.set

abbrev pub decreases-instrs : goal.decreases-instrs
decreases-instrs l = l.len - l.place
