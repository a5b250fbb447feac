use Rattle.world_laws.proofs.Origins.{sent_arrive, arrivals_were_sent}
use Rattle.world_laws.proofs.events.packets_arrive.Goals as goal

pub returns : goal.returns
returns c = record { arrive = λ w. sent_arrive w; sent = λ w. arrivals_were_sent w }
