use Rattle.std.proofs.Common.{length, take, ◌-◌}
use Rattle.std.specs.Prelude.{flat_map}
use Rattle.mate_files.specs.Pen.{Prints}
use Rattle.report_writer.specs.Text.{air_line}
use Rattle.report_writer.specs.Progress.{air_event, at_event}
use Rattle.report_writer.proofs.EventLemmas.{Runs}
use Rattle.report_writer.proofs.merge.air_of_event.Given as goal

abbrev pub invariant-loop-next : goal.invariant-loop-next
invariant-loop-next g l = record {
  runs : Runs air_event l.event l.air l.next;
  prints : Prints (g.S.Sink.written l.initial.out) (g.S.Sink.faults l.initial.out) l.initial.pen.result
      (g.S.Sink.written l.out) (g.S.Sink.faults l.out) l.pen.result (flat_map air_line (at_event air_event l.event (take l.next l.air)));
}

abbrev pub decreases-loop-next : goal.decreases-loop-next
decreases-loop-next g l = length l.air - l.next
