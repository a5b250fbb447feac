use Rattle.std.proofs.Common.{take, flat_map}
use Rattle.std.specs.List.{enumerate_from}
use Rattle.mate_files.specs.Pen.{Prints}
use Rattle.mate_code.specs.Table.{kinds_of}
use Rattle.opcode_gen.specs.TableText.{table_row}
use Rattle.opcode_gen.proofs.generate.print_table.Given as goal

abbrev pub invariant-loop-index : goal.invariant-loop-index
invariant-loop-index g l =
    Prints (g.S.Sink.written l.initial.out) (g.S.Sink.faults l.initial.out) l.initial.pen.result
    (g.S.Sink.written l.out) (g.S.Sink.faults l.out) l.pen.result
    (flat_map (table_row l.names.items) (take l.index (enumerate_from 0 (kinds_of l.table))))
