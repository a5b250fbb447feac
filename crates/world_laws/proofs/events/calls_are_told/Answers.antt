use Rattle.world_laws.proofs.Given.{called_are_told}
use Rattle.world_laws.proofs.events.calls_are_told.Goals as goal

pub returns : goal.returns
returns c = λ w. called_are_told w
