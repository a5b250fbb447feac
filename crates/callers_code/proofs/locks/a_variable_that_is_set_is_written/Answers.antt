use Rattle.std.proofs.Common.{ap, ◌∙◌}
use Rattle.mate_num.specs.declared.resource.Resource.{Resource}
use Rattle.mate_num.specs.declared.resource.Resource.TheVariants.{Shared}
use Rattle.mate_code.specs.CodeUses.{uses_of}
use Rattle.mate_code.specs.Run.{Code}
use Rattle.vm_shape.specs.Shapes.{shape_of}
use Rattle.callers_code.proofs.locks.a_variable_that_is_set_is_written.Goals as goal

pub returns : goal.returns
returns c =
    let variable : Resource = Shared (record { 0 = 2 }) in
    c.locks.ensures.writes variable ∙ ap (λ (code : Code). (uses_of (shape_of c.args.desc.now) code).writes variable) c.requires.code
