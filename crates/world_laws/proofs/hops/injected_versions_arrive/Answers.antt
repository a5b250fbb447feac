use Rattle.world_laws.proofs.HopBound.{hop_bound}
use Rattle.world_laws.proofs.hops.injected_versions_arrive.Goals as goal

pub returns : goal.returns
returns c = λ w open_ right. hop_bound w open_ right
