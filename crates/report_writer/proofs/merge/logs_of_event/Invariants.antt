use Rattle.std.proofs.Common.{◌+◌, ◌≤◌, ◌<◌, ℕ, length, take}
use Rattle.std.specs.Prelude.{slice_index_or}
use Rattle.mate_journal.specs.Log.{Log}
use Rattle.mate_files.specs.Pen.{Prints}
use Rattle.report_writer.specs.Text.{entry_lines}
use Rattle.mate_journal.specs.Tidy.{entry_event}
use Rattle.report_writer.specs.Progress.{IsCut}
use Rattle.report_writer.proofs.merge.logs_of_event.Given as goal

abbrev pub invariant-loop-node : goal.invariant-loop-node
invariant-loop-node g l = record {
  done : (k : ℕ) (d : Log) → k < l.node → IsCut entry_event (l.event + 1) (slice_index_or l.logs k d).entries (slice_index_or l.cursors k 0);
  left : (k : ℕ) (d : Log) → l.node ≤ k → k < length l.logs → IsCut entry_event l.event (slice_index_or l.logs k d).entries (slice_index_or l.cursors k 0);
  prints : Prints (g.S.Sink.written l.initial.out) (g.S.Sink.faults l.initial.out) l.initial.pen.result
      (g.S.Sink.written l.out) (g.S.Sink.faults l.out) l.pen.result (entry_lines l.desc l.event 0 (take l.node l.logs));
}
