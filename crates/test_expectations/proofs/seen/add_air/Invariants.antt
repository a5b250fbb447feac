use Rattle.std.proofs.Common.{◌≡◌, ◌++◌, take}
use Rattle.std.specs.Prelude.{filter_map}
use Rattle.test_expectations.specs.Sightings.{air_sighting}
use Rattle.test_expectations.proofs.seen.add_air.Given as goal

abbrev pub invariant-loop-aired : goal.invariant-loop-aired
invariant-loop-aired l = l.seen.items ≡ l.initial.seen.items ++ filter_map (air_sighting l.pattern) (take l.aired-index l.air)
