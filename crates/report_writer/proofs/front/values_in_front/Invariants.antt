use Rattle.std.proofs.Common.{◌+◌, ◌*◌, ◌≤◌, drop, length}
use Rattle.report_writer.specs.Chunk.{IsInFront}
use Rattle.report_writer.specs.Words.{values}
use Rattle.report_writer.proofs.front.values_in_front.Given as goal

abbrev pub invariant-loop-left : goal.invariant-loop-left
invariant-loop-left g l = record {
  piece : IsInFront l.initial.chunk l.chunk (values (drop l.left l.vs));
  within : l.left ≤ length l.vs;
  fits : length l.chunk + 7 * l.left ≤ length l.initial.chunk + 7 * length l.vs;
}

abbrev pub decreases-loop-left : goal.decreases-loop-left
decreases-loop-left g l = l.left
