use Rattle.std.proofs.Common.{take}
use Rattle.std.specs.Prelude.{flat_map}
use Rattle.mate_files.specs.Pen.{Prints}
use Rattle.report_writer.specs.Text.{entry_line}
use Rattle.report_writer.proofs.text.entry_lines.Given as goal

abbrev pub invariant-loop-stamped : goal.invariant-loop-stamped
invariant-loop-stamped g l =
    Prints (g.S.Sink.written l.initial.out) (g.S.Sink.faults l.initial.out) l.initial.pen.result
    (g.S.Sink.written l.out) (g.S.Sink.faults l.out) l.pen.result (flat_map (entry_line l.desc l.log l.node) (take l.stamped-index l.entries))
