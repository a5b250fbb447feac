use Rattle.slip_gateway.proofs.EndLemmas.{few}
use Rattle.slip_gateway.proofs.slip.frames_are_few.Goals as goal

pub returns : goal.returns
returns c = few
