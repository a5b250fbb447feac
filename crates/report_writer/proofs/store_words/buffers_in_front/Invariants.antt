use Rattle.std.proofs.Common.{◌+◌, ◌*◌, ◌≤◌, drop, length}
use Rattle.std.specs.Prelude.{flat_map}
use Rattle.std.specs.List.{zip}
use Rattle.report_writer.specs.Chunk.{IsInFront}
use Rattle.report_writer.specs.Words.{buffer_word}
use Rattle.report_writer.proofs.store_words.buffers_in_front.Given as goal

abbrev pub invariant-loop-left : goal.invariant-loop-left
invariant-loop-left g l = record {
  pieces : IsInFront l.initial.line l.line (flat_map buffer_word (drop l.left (zip l.names l.buffers)));
  named : l.left ≤ length l.names;
  valued : l.left ≤ length l.buffers;
  fits : length l.line + 89 * l.left ≤ length l.initial.line + 89 * length l.names;
}

abbrev pub decreases-loop-left : goal.decreases-loop-left
decreases-loop-left g l = l.left
