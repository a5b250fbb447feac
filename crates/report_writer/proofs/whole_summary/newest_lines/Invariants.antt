use Rattle.std.specs.Prelude.{flat_map}
use Rattle.mate_files.specs.Pen.{Prints}
use Rattle.mate_journal.specs.Tidy.{below}
use Rattle.report_writer.specs.Brief.{newest_line}
use Rattle.report_writer.proofs.whole_summary.newest_lines.Given as goal

abbrev pub invariant-loop-handler : goal.invariant-loop-handler
invariant-loop-handler g l =
    Prints (g.S.Sink.written l.initial.out) (g.S.Sink.faults l.initial.out) l.initial.pen.result
    (g.S.Sink.written l.out) (g.S.Sink.faults l.out) l.pen.result (flat_map (newest_line l.desc l.logs) (below l.handler))
