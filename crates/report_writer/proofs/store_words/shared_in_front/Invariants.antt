use Rattle.std.proofs.Common.{◌+◌, ◌*◌, ◌≤◌, drop, length}
use Rattle.std.specs.Prelude.{flat_map}
use Rattle.std.specs.List.{zip}
use Rattle.report_writer.specs.Chunk.{IsInFront}
use Rattle.report_writer.specs.Words.{shared_word}
use Rattle.report_writer.proofs.store_words.shared_in_front.Given as goal

abbrev pub invariant-loop-left : goal.invariant-loop-left
invariant-loop-left g l = record {
  pieces : IsInFront l.initial.line l.line (flat_map shared_word (drop l.left (zip l.names l.values)));
  named : l.left ≤ length l.names;
  valued : l.left ≤ length l.values;
  fits : length l.line + 24 * l.left ≤ length l.initial.line + 24 * length l.names;
}

abbrev pub decreases-loop-left : goal.decreases-loop-left
decreases-loop-left g l = l.left
