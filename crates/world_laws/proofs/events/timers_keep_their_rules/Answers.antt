use Rattle.world_laws.proofs.Timing.{timers_stand, points_decide}
use Rattle.world_laws.proofs.events.timers_keep_their_rules.Goals as goal

pub returns : goal.returns
returns c = record { stand = λ w. timers_stand w; decide = λ w. points_decide w }
