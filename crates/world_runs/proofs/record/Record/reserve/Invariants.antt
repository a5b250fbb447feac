use Rattle.std.proofs.Common.{◌≡◌, ◌≤◌, ◌<◌, ℕ, length}
use Rattle.std.specs.Prelude.{slice_get, Some}
use Rattle.mate_journal.specs.Log.{Log}
use Rattle.world_runs.specs.Records.{IsSameRecord}
use Rattle.world_runs.proofs.record.Record.reserve.Given as goal

abbrev pub invariant-loop-node : goal.invariant-loop-node
invariant-loop-node l = record {
  same : IsSameRecord l.fn.self l.self;
  count : length l.self.logs.items ≡ l.node-end;
  room : (k : ℕ) (x : Log) → k < l.node → slice_get l.self.logs.items k ≡ Some x → l.room ≤ x.spare;
}
