use Rattle.world_laws.proofs.Newer.{installs_are_newer, installs_are_told}
use Rattle.world_laws.proofs.installing.installs_are_taken.Goals as goal

pub returns : goal.returns
returns c = record { newer = λ w one timely rising positive. installs_are_newer w one timely rising positive; told = λ w. installs_are_told w }
