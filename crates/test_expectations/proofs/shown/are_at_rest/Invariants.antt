use Rattle.std.proofs.Common.{◌≡◌, drop}
use Rattle.std.specs.List.{list_all}
use Rattle.test_expectations.specs.Shown.{is_at_rest}
use Rattle.test_expectations.proofs.shown.are_at_rest.Given as goal

-- the rest settles it
abbrev pub invariant-loop-at : goal.invariant-loop-at
invariant-loop-at l = list_all is_at_rest (drop l.at l.logs) ≡ list_all is_at_rest l.logs
