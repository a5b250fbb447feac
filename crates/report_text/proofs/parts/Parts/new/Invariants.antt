use Rattle.std.proofs.Common.{◌≡◌, length}
use Rattle.std.specs.Prelude.{All}
use Rattle.mate_journal.specs.Log.{IsEmpty}
use Rattle.report_text.proofs.parts.Parts.new.Given as goal

abbrev pub invariant-loop-node : goal.invariant-loop-node
invariant-loop-node l = (length l.logs.items ≡ l._node) × All IsEmpty l.logs.items
