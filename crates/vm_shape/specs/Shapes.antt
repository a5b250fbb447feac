-- The shape of a description.
use Rattle.std.specs.Prelude.{length, map, Bool, true, false}
use Rattle.mate_num.specs.declared.shape.FunShape.{FunShape}
use Rattle.mate_num.specs.declared.shape.Shape.{Shape}
use Rattle.vm_shape.specs.Limits.{function_args}
use Rattle.vm_shape.specs.declared.function.Function.{Function}
use Rattle.vm_shape.specs.declared.function.FunKind.{FunKind}
use Rattle.vm_shape.specs.declared.function.FunKind.TheVariants.{Send}
use Rattle.vm_shape.specs.declared.description.Description.{Description}

-- the function sends a buffer
abbrev pub sends_buffer : FunKind → Bool
sends_buffer Send = true
sends_buffer _ = false

-- what the code knows of a function
abbrev pub fun_shape : Function → FunShape
fun_shape f = record { args = function_args f.kind; send = sends_buffer f.kind; device = f.device }

-- what the code knows of a machine
abbrev pub shape_of : Description → Shape
shape_of d = record {
  shared = length d.shared.items;
  buffers = length d.buffers.items;
  functions = record { items = map fun_shape d.functions.items };
}
