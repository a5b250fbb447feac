-- The digits of all but the bytes that are left were printed.
use Rattle.std.proofs.Common.{length}
use Rattle.mate_files.proofs.HexPieces.{HexUpTo}
use Rattle.mate_files.proofs.pen.Pen.hex.Given as goal

abbrev pub invariant-loop-rest : goal.invariant-loop-rest
invariant-loop-rest g l =
    HexUpTo (g.S.Sink.written l.initial.out) (g.S.Sink.faults l.initial.out) l.initial.self.result
    (g.S.Sink.written l.out) (g.S.Sink.faults l.out) l.self.result l.rest l.bytes

abbrev pub decreases-loop-rest : goal.decreases-loop-rest
decreases-loop-rest g l = length l.rest
