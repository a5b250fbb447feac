use Rattle.std.proofs.Common.{◌≡◌, ◌++◌, take}
use Rattle.vm_shape.proofs.rules.variable_names.Given as goal

abbrev pub invariant-loop-name : goal.invariant-loop-name
invariant-loop-name l = l.names.items ≡ take l.name-index l.shared

abbrev pub invariant-loop-name-2 : goal.invariant-loop-name-2
invariant-loop-name-2 l = l.names.items ≡ l.shared ++ take l.name-index l.buffers
