use Rattle.std.proofs.Common.{◌≡◌, take}
use Rattle.vm_shape.proofs.description.copy_of_names.Given as goal

abbrev pub invariant-loop-name : goal.invariant-loop-name
invariant-loop-name g l = l.copy.items ≡ take l.name-index l.name-items
