use Rattle.std.proofs.Common.{◌≡◌, drop}
use Rattle.std.specs.List.{list_any}
use Rattle.test_expectations.specs.Facts.{conjunction_holds}
use Rattle.test_expectations.proofs.deciding.expectation_holds.Given as goal

-- the rest settles it
abbrev pub invariant-loop-at : goal.invariant-loop-at
invariant-loop-at l = list_any (conjunction_holds l.outcome) (drop l.at l.expectation) ≡ list_any (conjunction_holds l.outcome) l.expectation
