use Rattle.std.proofs.Common.{List, [], ◌∷◌, map, ap, ◌∙◌}
use Rattle.mate_num.specs.declared.shape.FunShape.{FunShape}
use Rattle.mate_num.specs.declared.shape.Shape.{Shape}
use Rattle.vm_shape.specs.Limits.{function_args}
use Rattle.vm_shape.specs.Shapes.{fun_shape, sends_buffer}
use Rattle.vm_shape.specs.declared.function.Function.{Function}
use Rattle.vm_shape.specs.declared.function.FunKind.{FunKind}
use Rattle.callers_language.proofs.machines.an_actuator_pops_its_values.Goals as goal

pub returns : goal.returns
returns c = λ f one acts.
    ap (λ (s : Shape). s.functions.items) c.shape.ensures.value ∙ ap (λ (fs : List Function). map fun_shape fs) one
    ∙ ap (λ (kind : FunKind). let g : FunShape = record { args = function_args kind; send = sends_buffer kind; device = f.device } in g ∷ []) acts
