use Rattle.std.proofs.Common.{arith, ap, ◌∙◌}
use Rattle.std.proofs.lemmas.Grind.{common_steps}
use Rattle.packet_codec.specs.Reading.{packet_in}
use Rattle.packet_codec.proofs.PacketLemmas.{packet_again}
use Rattle.packet_codec.proofs.encoding.encode.Goals as goal

pub returns-clause-bytes : goal.returns-clause-bytes
returns-clause-bytes c = grind (arith, common_steps)

pub returns-clause-again : goal.returns-clause-again
returns-clause-again c = ap (packet_in c.args.desc.now) (returns-clause-bytes c) ∙ packet_again c.args.desc.now c.args.packet.now c.requires c.put_body.ensures.ranges
