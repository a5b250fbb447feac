use Rattle.std.proofs.Common.{arith}
use Rattle.packet_codec.proofs.PacketLemmas.{packet_found, only_packet}
use Rattle.packet_codec.proofs.decoding.decode.Goals as goal

pub returns-clause-form : goal.returns-clause-form
returns-clause-form c = packet_found c.args.desc.now c.args.bytes.now c.read_packet.result (λ i. omega (arith, c.type_inv.bytes i)) c.read_packet.ensures

pub returns-clause-only : goal.returns-clause-only
returns-clause-only c = λ p right ranges same. only_packet c.args.desc.now c.args.bytes.now c.read_packet.result p c.read_packet.ensures right ranges same
