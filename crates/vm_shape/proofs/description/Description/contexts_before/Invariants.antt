use Rattle.std.proofs.Common.{◌≡◌, take}
use Rattle.vm_shape.specs.Limits.{context_sum}
use Rattle.vm_shape.proofs.description.Description.contexts_before.Given as goal

abbrev pub invariant-loop-handler : goal.invariant-loop-handler
invariant-loop-handler l = l.contexts ≡ context_sum (take l.handler-index l.handler-items)
