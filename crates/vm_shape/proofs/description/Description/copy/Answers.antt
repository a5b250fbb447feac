use Rattle.std.proofs.Common.{refl}
use Rattle.vm_shape.proofs.DescriptionLemmas.{parts_of-same}
use Rattle.vm_shape.proofs.description.Description.copy.Goals as goal

pub invariant_of-result : goal.invariant_of-result
invariant_of-result c = record {
  valid = rw (c.copy_of_handlers.ensures, c.copy_of_functions.ensures, c.copy_of_names.ensures, c.copy_of_names-2.ensures, c.copy_of_names-3.ensures) c.args.self.now.valid;
}

pub returns : goal.returns
returns c =
    parts_of-same _ c.args.self.now
    (rw (c.copy_of_handlers.ensures, c.copy_of_functions.ensures, c.copy_of_names.ensures, c.copy_of_names-2.ensures, c.copy_of_names-3.ensures) refl)
