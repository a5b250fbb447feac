use Rattle.std.proofs.Common.{◌++◌, arith}
use Rattle.test_expectations.specs.Sightings.{by_number, log_sightings}
use Rattle.test_expectations.proofs.SightingLemmas.{by_number-next, by_number-all}
use Rattle.test_expectations.proofs.seen.add_logs.Goals as goal

pub loop-node-preserved : goal.loop-node-preserved
loop-node-preserved c =
    by_number-next (log_sightings c.args.pattern.now) c.args.logs.now c.loop-node.node c.loop-node.node c.index-logs-node.result
    c.loop-node.seen.items c.add_log.new.seen.items
    (c.args.seen.now.items ++ by_number (log_sightings c.args.pattern.now) 0 c.args.logs.now) (omega (arith, c.loop-node-test.true))
    c.index-logs-node.is c.loop-node.invariant c.in_ok-add_log.ensures

pub returns : goal.returns
returns c =
    by_number-all (log_sightings c.args.pattern.now) c.args.logs.now c.loop-node.node c.loop-node.node c.loop-node.seen.items
    (c.args.seen.now.items ++ by_number (log_sightings c.args.pattern.now) 0 c.args.logs.now) (omega (arith, c.loop-node-test.false))
    c.loop-node.invariant
