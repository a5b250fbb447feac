use Rattle.std.proofs.Common.{◌≡◌, length}
use Rattle.std.specs.List.{All}
use Rattle.mate_journal.specs.Log.{IsEmpty}
use Rattle.mate_journal.proofs.report.NodeLogs.empty.Given as goal

abbrev pub invariant-loop-node : goal.invariant-loop-node
invariant-loop-node l = record { count : length l.logs.items ≡ l._node; empty : All IsEmpty l.logs.items }
