-- The capsule that is handed out has the parts of the one that was read in place.
use Rattle.std.proofs.Common.{ap, ◌∙◌, sym, subst, arith}
use Rattle.std.specs.Prelude.{Result, Ok}
use Rattle.capsule_codec.specs.declared.capsule.CapsuleRef.{CapsuleRef}
use Rattle.capsule_codec.specs.declared.decoding.CapsuleFault.{CapsuleFault}
use Rattle.capsule_codec.specs.Reading.{GivesInPlace, capsule_in}
use Rattle.capsule_codec.proofs.ImageLemmas.{image_found, only_capsule}
use Rattle.capsule_codec.proofs.decoding.decode.Goals as goal

pub returns-in-Ok-clause-value : goal.returns-in-Ok-clause-value
returns-in-Ok-clause-value c =
    let P : Result CapsuleRef CapsuleFault → Type 0 = λ r. GivesInPlace r (capsule_in c.args.desc.now c.args.bytes.now) in
    subst P c.in-Ok.is c.read.ensures ∙ ap Ok (sym c.copy.ensures)

pub returns-in-Ok-clause-image : goal.returns-in-Ok-clause-image
returns-in-Ok-clause-image c = image_found c.args.desc.now c.args.bytes.now (Ok c.copy.result) (λ i. omega (arith, c.type_inv.bytes i)) (returns-in-Ok-clause-value c)

pub returns-in-Ok-clause-only : goal.returns-in-Ok-clause-only
returns-in-Ok-clause-only c = λ x fits right same. only_capsule c.args.desc.now c.args.bytes.now (Ok c.copy.result) x (returns-in-Ok-clause-value c) fits right same
