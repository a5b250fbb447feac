use Rattle.std.proofs.Common.{◌≡◌, drop}
use Rattle.std.specs.List.{list_all}
use Rattle.test_expectations.specs.Facts.{literal_holds}
use Rattle.test_expectations.proofs.deciding.conjunction_holds.Given as goal

-- the rest settles it
abbrev pub invariant-loop-at : goal.invariant-loop-at
invariant-loop-at l = list_all (literal_holds l.outcome) (drop l.at l.literals) ≡ list_all (literal_holds l.outcome) l.literals
