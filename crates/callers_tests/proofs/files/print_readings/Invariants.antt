use Rattle.std.proofs.Common.{ℕ, List, ℤ, ◌++◌, codes, decimal, take, flat_map}
use Rattle.std.specs.Fmt.{signed_decimal}
use Rattle.mate_files.specs.Pen.{Prints}
use Rattle.callers_tests.proofs.files.print_readings.Given as goal

abbrev pub line : ℕ × ℤ → List ℕ
line r = codes "node " ++ decimal r.0 ++ codes ": " ++ signed_decimal r.1 ++ codes "\n"

abbrev pub invariant-loop-reading : goal.invariant-loop-reading
invariant-loop-reading g l =
    Prints (g.S.Sink.written l.initial.out) (g.S.Sink.faults l.initial.out) l.initial.pen.result
    (g.S.Sink.written l.out) (g.S.Sink.faults l.out) l.pen.result
    (flat_map line (take l.reading-index l.readings))
