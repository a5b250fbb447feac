use Rattle.std.proofs.Common.{◌≡◌, take}
use Rattle.vm_shape.proofs.description.copy_of_functions.Given as goal

abbrev pub invariant-loop-function : goal.invariant-loop-function
invariant-loop-function l = l.copy.items ≡ take l.function-index l.function-items
