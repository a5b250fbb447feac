use Rattle.world_laws.proofs.Origins.{calls_are_answered, answers_were_called}
use Rattle.world_laws.proofs.events.calls_are_answered.Goals as goal

pub returns : goal.returns
returns c = record { answered = λ w. calls_are_answered w; called = λ w. answers_were_called w }
