use Rattle.vm_desc.proofs.FieldLemmas.{AreNames}
use Rattle.vm_desc.proofs.fields.names_in.Given as goal

abbrev pub invariant-loop-item : goal.invariant-loop-item
invariant-loop-item g l = AreNames l.item-items l.item-index l.names.items
