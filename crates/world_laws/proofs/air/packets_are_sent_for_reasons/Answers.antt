use Rattle.world_laws.proofs.Sent.{events_send_theirs}
use Rattle.world_laws.proofs.Reasons.{sent_have_reasons}
use Rattle.world_laws.proofs.air.packets_are_sent_for_reasons.Goals as goal

pub returns : goal.returns
returns c = record { reasons = λ w. sent_have_reasons w; theirs = λ w. events_send_theirs w }
