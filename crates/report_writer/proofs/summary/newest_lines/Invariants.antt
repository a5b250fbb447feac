use Rattle.std.specs.Prelude.{flat_map}
use Rattle.mate_files.specs.Pen.{Prints}
use Rattle.mate_journal.specs.Tidy.{below}
use Rattle.report_writer.specs.Summary.{newest_line_counted}
use Rattle.report_writer.proofs.summary.newest_lines.Given as goal

abbrev pub invariant-loop-handler : goal.invariant-loop-handler
invariant-loop-handler g l =
    Prints (g.S.Sink.written l.initial.out) (g.S.Sink.faults l.initial.out) l.initial.pen.result
    (g.S.Sink.written l.out) (g.S.Sink.faults l.out) l.pen.result (flat_map (newest_line_counted l.desc l.nodes) (below l.handler))
