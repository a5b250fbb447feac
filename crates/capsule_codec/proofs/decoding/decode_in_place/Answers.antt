use Rattle.std.proofs.Common.{arith}
use Rattle.capsule_codec.proofs.ImageLemmas.{image_in_place}
use Rattle.capsule_codec.proofs.decoding.decode_in_place.Goals as goal

pub returns-clause-image : goal.returns-clause-image
returns-clause-image c = image_in_place c.args.desc.now c.args.bytes.now c.read.result (λ i. omega (arith, c.type_inv.bytes i)) c.read.ensures
