use Rattle.std.proofs.Common.{length, take, ◌-◌}
use Rattle.std.specs.Prelude.{flat_map}
use Rattle.mate_files.specs.Pen.{Prints}
use Rattle.report_writer.specs.Text.{entry_line}
use Rattle.mate_journal.specs.Tidy.{entry_event}
use Rattle.report_writer.specs.Progress.{at_event}
use Rattle.report_writer.proofs.EventLemmas.{Runs}
use Rattle.report_writer.proofs.merge.log_of_event.Given as goal

abbrev pub invariant-loop-next : goal.invariant-loop-next
invariant-loop-next g l = record {
  runs : Runs entry_event l.event l.log.entries l.next;
  prints : Prints (g.S.Sink.written l.initial.out) (g.S.Sink.faults l.initial.out) l.initial.pen.result
      (g.S.Sink.written l.out) (g.S.Sink.faults l.out) l.pen.result (flat_map (entry_line l.desc l.log l.node) (at_event entry_event l.event (take l.next l.log.entries)));
}

abbrev pub decreases-loop-next : goal.decreases-loop-next
decreases-loop-next g l = length l.log.entries - l.next
