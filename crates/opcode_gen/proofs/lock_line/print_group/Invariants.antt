use Rattle.std.proofs.Common.{take, flat_map}
use Rattle.std.specs.List.{enumerate_from}
use Rattle.mate_files.specs.Pen.{Prints}
use Rattle.mate_num.specs.Locks.{lock_uses}
use Rattle.opcode_gen.specs.LockLine.{mention_at}
use Rattle.opcode_gen.proofs.lock_line.print_group.Given as goal

abbrev pub invariant-loop-place : goal.invariant-loop-place
invariant-loop-place g l =
    Prints (g.S.Sink.written l.initial.out) (g.S.Sink.faults l.initial.out) l.initial.pen.result
    (g.S.Sink.written l.out) (g.S.Sink.faults l.out) l.pen.result
    (flat_map (mention_at (lock_uses l.set) l.group) (take l.place (enumerate_from 0 l.names)))
