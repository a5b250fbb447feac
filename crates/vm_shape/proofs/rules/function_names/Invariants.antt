use Rattle.std.proofs.Common.{◌≡◌, take, map}
use Rattle.vm_shape.proofs.rules.function_names.Given as goal

abbrev pub invariant-loop-function : goal.invariant-loop-function
invariant-loop-function l = l.names.items ≡ map (λ f. f.name) (take l.function-index l.function-items)
