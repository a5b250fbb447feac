use Rattle.test_expectations.specs.Sightings.{air_sighting}
use Rattle.test_expectations.proofs.StepLemmas.{collected-next}
use Rattle.test_expectations.proofs.seen.add_air.Goals as goal

pub loop-aired-preserved : goal.loop-aired-preserved
loop-aired-preserved c =
    collected-next (air_sighting c.args.pattern.now) c.args.seen.now.items c.args.air.now
    c.loop-aired.aired-index c.aired-item.result c.air_sighting.result c.loop-aired.seen.items c.push_some.new.items.items
    c.loop-aired-test.true c.aired-item.is c.air_sighting.ensures c.loop-aired.invariant c.in_ok-push_some.ensures
