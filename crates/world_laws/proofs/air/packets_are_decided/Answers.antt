use Rattle.world_laws.proofs.Sent.{packets_are_numbered, packets_are_decided, losses_follow_directly}
use Rattle.world_laws.proofs.air.packets_are_decided.Goals as goal

pub returns : goal.returns
returns c = record { numbered = λ w. packets_are_numbered w; decided = λ w. packets_are_decided w; directly = λ w. losses_follow_directly w }
