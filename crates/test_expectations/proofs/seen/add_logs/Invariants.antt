use Rattle.std.proofs.Common.{◌≡◌, ◌++◌, drop}
use Rattle.test_expectations.specs.Sightings.{by_number, log_sightings}
use Rattle.test_expectations.proofs.seen.add_logs.Given as goal

abbrev pub invariant-loop-node : goal.invariant-loop-node
invariant-loop-node l =
    l.seen.items ++ by_number (log_sightings l.pattern) l.node (drop l.node l.logs)
    ≡ l.initial.seen.items ++ by_number (log_sightings l.pattern) 0 l.logs
