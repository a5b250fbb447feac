use Rattle.std.proofs.Common.{◌≡◌, drop}
use Rattle.world_rules.specs.World.{series_in}
use Rattle.world_air.proofs.calls.series_value.Given as goal

abbrev pub invariant-loop-one : goal.invariant-loop-one
invariant-loop-one l = series_in l.series l.node l.fun.0 ≡ series_in (drop l.one-index l.series) l.node l.fun.0
