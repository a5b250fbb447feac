use Rattle.vm_shape.specs.Limits.{is_handler}
use Rattle.vm_desc.specs.Reading.{handler_at}
use Rattle.vm_desc.proofs.Fronts.{IsFront}
use Rattle.vm_desc.proofs.parts.each_handler.Given as goal

abbrev pub invariant-loop-item : goal.invariant-loop-item
invariant-loop-item l = IsFront handler_at is_handler l.item-items l.item-index l.handlers.items
