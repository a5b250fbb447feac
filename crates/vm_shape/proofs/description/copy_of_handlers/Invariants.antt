use Rattle.std.proofs.Common.{◌≡◌, take}
use Rattle.vm_shape.proofs.description.copy_of_handlers.Given as goal

abbrev pub invariant-loop-handler : goal.invariant-loop-handler
invariant-loop-handler l = l.copy.items ≡ take l.handler-index l.handler-items
