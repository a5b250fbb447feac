use Rattle.world_laws.proofs.Installs.{installs_its_own, installs_rise, held_never_falls, held_was_installed}
use Rattle.world_laws.proofs.installing.versions_rise.Goals as goal

pub returns : goal.returns
returns c = record { own = λ w. installs_its_own w; rise = λ w. installs_rise w; never_falls = λ w. held_never_falls w; installed = λ w. held_was_installed w }
