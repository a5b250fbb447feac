use Rattle.std.proofs.Common.{ap, ◌∙◌}
use Rattle.mate_num.specs.declared.resource.Resource.{Resource}
use Rattle.mate_num.specs.declared.resource.Resource.TheVariants.{Buffer}
use Rattle.mate_code.specs.CodeUses.{uses_of}
use Rattle.mate_code.specs.Run.{Code}
use Rattle.vm_shape.specs.Shapes.{shape_of}
use Rattle.callers_code.proofs.locks.a_buffer_that_is_sent_is_read.Goals as goal

pub returns : goal.returns
returns c =
    let buffer : Resource = Buffer (record { 0 = 1 }) in
    c.locks.ensures.reads buffer ∙ ap (λ (code : Code). (uses_of (shape_of c.args.desc.now) code).reads buffer) c.requires.code
