use Rattle.std.proofs.Common.{List, ap₂, ◌∙◌}
use Rattle.mate_num.specs.declared.resource.Resource.{Resource}
use Rattle.mate_num.specs.declared.resource.Resource.TheVariants.{Device}
use Rattle.mate_num.specs.declared.shape.FunShape.{FunShape}
use Rattle.mate_code.specs.CodeUses.{uses_of}
use Rattle.mate_code.specs.Run.{Code}
use Rattle.vm_shape.specs.Shapes.{shape_of}
use Rattle.callers_code.proofs.locks.the_device_of_a_called_function_is_written.Goals as goal

pub returns : goal.returns
returns c =
    let device : Resource = Device (record { 0 = 3 }) in
    c.locks.ensures.writes device
    ∙ ap₂ (λ (functions : List FunShape) (code : Code). (uses_of (record (shape_of c.args.desc.now) { functions = record { items = functions } }) code).writes device)
    c.requires.functions c.requires.code
