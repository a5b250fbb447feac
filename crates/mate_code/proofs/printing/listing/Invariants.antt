use Rattle.std.proofs.Common.{take, flat_map}
use Rattle.mate_files.specs.Pen.{Prints}
use Rattle.mate_code.specs.Listing.{line}
use Rattle.mate_code.proofs.printing.listing.Given as goal

abbrev pub invariant-loop-place : goal.invariant-loop-place
invariant-loop-place g l =
    Prints (g.S.Sink.written l.initial.out) (g.S.Sink.faults l.initial.out) l.initial.pen.result
    (g.S.Sink.written l.out) (g.S.Sink.faults l.out) l.pen.result
    (flat_map (line l.desc_names) (take l.place-index l.place-items))
