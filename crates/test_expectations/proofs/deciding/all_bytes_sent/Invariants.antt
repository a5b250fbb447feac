use Rattle.std.proofs.Common.{◌≡◌, ◌≤◌, ◌*◌, take}
use Rattle.std.specs.Prelude.{sum_by}
use Rattle.test_expectations.specs.Facts.{bytes_sent}
use Rattle.test_expectations.proofs.deciding.all_bytes_sent.Given as goal

abbrev pub invariant-loop-aired : goal.invariant-loop-aired
invariant-loop-aired l = record {
  value : l.bytes ≡ sum_by (bytes_sent l.node) (take l.aired-index l.air);
  few : l.bytes ≤ 64 * l.aired-index;
}
