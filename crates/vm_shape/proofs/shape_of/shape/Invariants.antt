use Rattle.std.proofs.Common.{◌≡◌, take, map}
use Rattle.vm_shape.specs.Shapes.{fun_shape}
use Rattle.vm_shape.proofs.shape_of.shape.Given as goal

abbrev pub invariant-loop-function : goal.invariant-loop-function
invariant-loop-function l = l.functions.items ≡ map fun_shape (take l.function-index l.function-items)
