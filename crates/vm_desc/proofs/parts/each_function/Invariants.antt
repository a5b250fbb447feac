use Rattle.std.proofs.Common.{length}
use Rattle.vm_shape.specs.Limits.{is_function}
use Rattle.vm_desc.specs.Reading.{function_at}
use Rattle.vm_desc.proofs.Fronts.{IsFront}
use Rattle.vm_desc.proofs.parts.each_function.Given as goal

abbrev pub invariant-loop-item : goal.invariant-loop-item
invariant-loop-item l = IsFront (function_at l.devices) (is_function (length l.devices)) l.item-items l.item-index l.functions.items
