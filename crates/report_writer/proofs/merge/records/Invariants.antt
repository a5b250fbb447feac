use Rattle.std.proofs.Common.{◌-◌, ◌<◌}
use Rattle.std.specs.Prelude.{flat_map, IfSome}
use Rattle.mate_files.specs.Pen.{Prints}
use Rattle.mate_journal.specs.Tidy.{below}
use Rattle.report_writer.specs.Text.{event_lines, events_end}
use Rattle.report_writer.proofs.MergeLemmas.{IsAt, reached}
use Rattle.report_writer.proofs.merge.records.Given as goal

abbrev pub invariant-loop-next : goal.invariant-loop-next
invariant-loop-next g l = record {
  at : IfSome l.next (IsAt l.report l.air l.cursors);
  end : IfSome l.next (λ event. event < events_end l.report);
  prints : Prints (g.S.Sink.written l.initial.out) (g.S.Sink.faults l.initial.out) l.initial.pen.result
      (g.S.Sink.written l.out) (g.S.Sink.faults l.out) l.pen.result (flat_map (event_lines l.desc l.report) (below (reached l.report l.next)));
}

abbrev pub decreases-loop-next : goal.decreases-loop-next
decreases-loop-next g l = events_end l.report - reached l.report l.next
