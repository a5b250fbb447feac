-- What holds of the capsule in place holds of the capsule, since both have the same parts.
use Rattle.std.proofs.Common.{◌≡◌, ap, ◌∙◌, subst}
use Rattle.std.specs.Prelude.{Ok}
use Rattle.vm_shape.specs.declared.description.Description.{Description}
use Rattle.capsule_codec.specs.Image.{CapsuleParts, capsule_image, IsCapsule, IsOfMachine}
use Rattle.capsule_codec.specs.Reading.{capsule_in}
use Rattle.capsule_codec.proofs.encoding.encode.Goals as goal

pub returns-clause-bytes : goal.returns-clause-bytes
returns-clause-bytes c = c.encode_in_place.ensures.bytes ∙ ap capsule_image c.in_place.ensures

pub returns-clause-fits : goal.returns-clause-fits
returns-clause-fits c = subst (λ (x : CapsuleParts). IsCapsule x) c.in_place.ensures c.encode_in_place.ensures.fits

pub returns-clause-again : goal.returns-clause-again
returns-clause-again c =
    let P : CapsuleParts → Type 0 = λ x. (d : Description) → IsOfMachine d x → capsule_in d c.encode_in_place.result.items ≡ Ok x in
    subst P c.in_place.ensures c.encode_in_place.ensures.again
