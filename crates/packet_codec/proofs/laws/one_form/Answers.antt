use Rattle.packet_codec.proofs.PacketLemmas.{packet_again, packet_is}
use Rattle.packet_codec.proofs.laws.one_form.Goals as goal

pub returns-clause-again : goal.returns-clause-again
returns-clause-again c = packet_again

pub returns-clause-only : goal.returns-clause-only
returns-clause-only c = packet_is
