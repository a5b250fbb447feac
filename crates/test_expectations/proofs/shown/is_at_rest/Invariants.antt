use Rattle.std.proofs.Common.{◌≡◌, ◌≤◌, take}
use Rattle.std.specs.Prelude.{fold}
use Rattle.test_expectations.specs.Shown.{live_after}
use Rattle.test_expectations.proofs.shown.is_at_rest.Given as goal

abbrev pub invariant-loop-stamped : goal.invariant-loop-stamped
invariant-loop-stamped l = record {
  value : l.live ≡ fold (λ n e. live_after n e.entry) 0 (take l.stamped-index l.log.entries);
  few : l.live ≤ l.stamped-index;
}
