-- The capsule has the parts of the one in place.
use Rattle.std.proofs.Common.{◌≡◌, subst}
use Rattle.capsule_codec.specs.Image.{CapsuleParts, capsule_image, IsCapsule}
use Rattle.command_steps.specs.Steps.{obtained}
use Rattle.command_programs.proofs.image.stored_image.Goals as goal

pub returns-clause-image : goal.returns-clause-image
returns-clause-image c = subst (λ (x : CapsuleParts). obtained (λ image. image.items ≡ capsule_image x) c.stored_in_place.result) c.in_place.ensures c.stored_in_place.ensures.image

pub returns-clause-fits : goal.returns-clause-fits
returns-clause-fits c = subst (λ (x : CapsuleParts). IsCapsule x) c.in_place.ensures c.stored_in_place.ensures.fits
