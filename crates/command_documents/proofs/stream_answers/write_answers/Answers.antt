use Rattle.std.proofs.Common.{arith}
use Rattle.mate_files.proofs.PenLemmas.{Puts-finished}
use Rattle.command_documents.proofs.FrameLines.{printed_none, printed_next, printed_all}
use Rattle.command_documents.proofs.stream_answers.write_answers.Goals as goal

pub loop-piece-init : goal.loop-piece-init
loop-piece-init g c = printed_none c.args.desc.now c.new-answers.result c.args.stream.now _ _ _ c.new-answers.ensures.number c.new-answers.ensures.held

pub loop-piece-preserved : goal.loop-piece-preserved
loop-piece-preserved g c =
    printed_next c.args.desc.now c.loop-piece.answers c.print_piece.new.self c.args.stream.now c.loop-piece.rest.now c.in-Some.piece.now c.in-Some.behind.now _ _ _ _ _ _ _ _ _
    c.loop-piece.invariant c.in-Some.ensures c.print_piece.ensures

pub print_piece-requires-clause-few : goal.print_piece-requires-clause-few
print_piece-requires-clause-few g c =
    let few = c.loop-piece.invariant.few in
    let shorter = c.in-Some.ensures.shorter in
    omega (arith, few, shorter)

pub returns : goal.returns
returns g c =
    Puts-finished c.new-pen.ensures c.finish.ensures
    (printed_all c.args.desc.now c.loop-piece.answers c.args.stream.now c.loop-piece.rest.now _ _ _ _ _ _ c.in_default.ensures c.loop-piece.invariant)
