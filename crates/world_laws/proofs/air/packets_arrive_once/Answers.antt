use Rattle.world_laws.proofs.Arrive.{packets_arrive_once, reached_is_done}
use Rattle.world_laws.proofs.air.packets_arrive_once.Goals as goal

pub returns : goal.returns
returns c = record { arrive = λ w. packets_arrive_once w; reached = λ w. reached_is_done w }
