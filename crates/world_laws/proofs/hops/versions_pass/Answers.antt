use Rattle.world_laws.proofs.Passing.{windows_pass, paths_pass, injections_pass}
use Rattle.world_laws.proofs.Silence.{silent_heard_their_own, vectors_come_from_holders, hearers_ask}
use Rattle.world_laws.proofs.hops.versions_pass.Goals as goal

pub returns : goal.returns
returns c = record { window = λ w net. windows_pass w net; path = λ w net. paths_pass w net; injection = λ w net. injections_pass w net; silent = λ w net. silent_heard_their_own w net.set; holders = vectors_come_from_holders; hearers = hearers_ask }
