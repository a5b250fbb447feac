use Rattle.std.proofs.Common.{length}
use Rattle.command_documents.proofs.FrameLines.{HasPrinted}
use Rattle.command_documents.proofs.stream_answers.write_answers.Given as goal

-- the frames so far are answered, and the text of that is printed
abbrev pub invariant-loop-piece : goal.invariant-loop-piece
invariant-loop-piece g l =
    HasPrinted l.desc l.answers l.stream l.rest (g.S.Sink.written l.initial.out) (g.S.Sink.faults l.initial.out) l.initial.pen.result
    (g.S.Sink.written l.out) (g.S.Sink.faults l.out) l.pen.result

abbrev pub decreases-loop-piece : goal.decreases-loop-piece
decreases-loop-piece g l = length l.rest
