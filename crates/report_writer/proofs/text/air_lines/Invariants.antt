use Rattle.std.proofs.Common.{take}
use Rattle.std.specs.Prelude.{flat_map}
use Rattle.mate_files.specs.Pen.{Prints}
use Rattle.report_writer.specs.Text.{air_line}
use Rattle.report_writer.proofs.text.air_lines.Given as goal

abbrev pub invariant-loop-aired : goal.invariant-loop-aired
invariant-loop-aired g l =
    Prints (g.S.Sink.written l.initial.out) (g.S.Sink.faults l.initial.out) l.initial.pen.result
    (g.S.Sink.written l.out) (g.S.Sink.faults l.out) l.pen.result (flat_map air_line (take l.aired-index l.air))
