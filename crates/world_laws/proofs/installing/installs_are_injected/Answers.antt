use Rattle.world_laws.proofs.Versions.{installs_injected}
use Rattle.world_laws.proofs.Newest.{installs_at_most}
use Rattle.world_laws.proofs.Agree.{held_agrees}
use Rattle.world_laws.proofs.installing.installs_are_injected.Goals as goal

pub returns : goal.returns
returns c = record { injected = λ w one. installs_injected w one; most = λ w one. installs_at_most w one; held = λ w. held_agrees w }
