use Rattle.std.proofs.Common.{◌≡◌, length, All}
use Rattle.mate_journal.specs.Log.{IsEmpty}
use Rattle.world_runs.proofs.record.Record.new.Given as goal

abbrev pub invariant-loop-node : goal.invariant-loop-node
invariant-loop-node l = record {
  count : length l.logs.items ≡ l._node;
  empty : All IsEmpty l.logs.items;
  places : length l.places-inside.logs.items ≡ l.nodes;
}
