use Rattle.std.proofs.Common.{◌≡◌, ◌+◌, ◌++◌, drop}
use Rattle.test_expectations.specs.Sightings.{by_number, entry_sightings}
use Rattle.test_expectations.proofs.seen.add_entries.Given as goal

abbrev pub invariant-loop-at : goal.invariant-loop-at
invariant-loop-at l =
    l.seen.items ++ by_number (entry_sightings l.pattern l.posts l.node) (l.at + 1) (drop l.at l.entries)
    ≡ l.initial.seen.items ++ by_number (entry_sightings l.pattern l.posts l.node) 1 l.entries
