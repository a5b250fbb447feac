use Rattle.std.proofs.Common.{arith}
use Rattle.capsule_codec.proofs.HexTextLemmas.{image_in-encode_lower}
use Rattle.capsule_codec.proofs.hex_text.digits_of.Goals as goal

pub returns-clause-again : goal.returns-clause-again
returns-clause-again c = rw c.in_ok-encode.ensures (image_in-encode_lower c.args.bytes.now (λ i. omega (arith, c.type_inv.bytes i)) c.requires)
