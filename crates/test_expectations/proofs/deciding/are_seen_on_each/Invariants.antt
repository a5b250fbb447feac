use Rattle.std.proofs.Common.{◌≡◌}
use Rattle.std.specs.List.{list_all}
use Rattle.mate_journal.specs.Tidy.{below}
use Rattle.test_expectations.specs.Facts.{is_seen_on}
use Rattle.test_expectations.proofs.deciding.are_seen_on_each.Given as goal

abbrev pub invariant-loop-node : goal.invariant-loop-node
invariant-loop-node l = l.all ≡ list_all (is_seen_on l.seen) (below l.node)
