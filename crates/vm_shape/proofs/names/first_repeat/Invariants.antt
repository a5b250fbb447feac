use Rattle.std.proofs.Common.{◌≡◌, take, drop}
use Rattle.vm_shape.specs.Names.{repeat_after, first_repeat}
use Rattle.vm_shape.proofs.names.first_repeat.Given as goal

abbrev pub invariant-loop-index : goal.invariant-loop-index
invariant-loop-index l = repeat_after (take l.index l.names) (drop l.index l.names) ≡ first_repeat l.names
