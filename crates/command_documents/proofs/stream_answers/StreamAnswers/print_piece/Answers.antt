use Rattle.command_documents.proofs.FrameLines.{prints_none, prints_one}
use Rattle.command_documents.proofs.stream_answers.StreamAnswers.print_piece.Goals as goal

pub returns-then-is_empty : goal.returns-then-is_empty
returns-then-is_empty g c = prints_none c.args.desc.now c.args.self.now c.args.piece.now _ _ _ c.if-is_empty.ensures

pub returns : goal.returns
returns g c =
    prints_one c.args.desc.now c.args.self.now c.answer-answer.new.self c.args.piece.now c.answer-answer.result _ _ _ _ _ _ c.if-is_empty.ensures
    c.answer-answer.ensures.answer c.answer-answer.ensures.held c.answer-answer.ensures.number c.print_line.ensures
