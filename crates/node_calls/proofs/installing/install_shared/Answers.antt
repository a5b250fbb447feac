-- The bytes are a capsule or are refused.
use Rattle.std.proofs.Common.{Result, refl, subst}
use Rattle.capsule_codec.specs.declared.capsule.CapsuleRef.{CapsuleRef}
use Rattle.capsule_codec.specs.declared.decoding.CapsuleFault.{CapsuleFault}
use Rattle.capsule_codec.specs.Reading.{GivesInPlace, capsule_in}
use Rattle.node_calls.proofs.InstallLemmas.{IsReadAs-from, CanRenew-known}
use Rattle.node_calls.proofs.installing.install_shared.Goals as goal

pub returns-in-Err-clause-installs : goal.returns-in-Err-clause-installs
returns-in-Err-clause-installs c =
    let P : Result CapsuleRef CapsuleFault → Type 0 = λ r. GivesInPlace r (capsule_in c.args.description.now c.args.bytes.now) in
    (subst P c.in-Err.is c.decode_in_place.ensures.value, refl)

pub install_known-requires-clause-can : goal.install_known-requires-clause-can
install_known-requires-clause-can c =
    CanRenew-known c.args.description.now c.args.parts.now c.args.bytes.now c.in-Ok.capsule c.requires.may.rests
    (IsReadAs-from c.args.description.now c.args.bytes.now c.decode_in_place.result c.in-Ok.capsule c.in-Ok.is c.decode_in_place.ensures.value c.decode_in_place.ensures.image) (c.renews.ensures c.if-renews.true)

pub install_beside-requires-clause-read : goal.install_beside-requires-clause-read
install_beside-requires-clause-read c = IsReadAs-from c.args.description.now c.args.bytes.now c.decode_in_place.result c.in-Ok.capsule c.in-Ok.is c.decode_in_place.ensures.value c.decode_in_place.ensures.image

pub install_new-requires-clause-read : goal.install_new-requires-clause-read
install_new-requires-clause-read c = IsReadAs-from c.args.description.now c.args.bytes.now c.decode_in_place.result c.in-Ok.capsule c.in-Ok.is c.decode_in_place.ensures.value c.decode_in_place.ensures.image
