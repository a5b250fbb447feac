use Rattle.slip_gateway.proofs.StreamLemmas.{frames-append, rest-append}
use Rattle.slip_gateway.proofs.slip.frames_compose.Goals as goal

pub returns-clause-frames : goal.returns-clause-frames
returns-clause-frames c = frames-append

pub returns-clause-rest : goal.returns-clause-rest
returns-clause-rest c = rest-append
