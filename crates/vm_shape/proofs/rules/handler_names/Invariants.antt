use Rattle.std.proofs.Common.{◌≡◌, take, map}
use Rattle.vm_shape.proofs.rules.handler_names.Given as goal

abbrev pub invariant-loop-handler : goal.invariant-loop-handler
invariant-loop-handler l = l.names.items ≡ map (λ h. h.name) (take l.handler-index l.handler-items)
