use Rattle.slip_gateway.specs.Pieces.{frame_at}
use Rattle.command_documents.proofs.stream_answers.StreamAnswers.answer.Goals as goal

pub returns-then-has_escape-clause-answer : goal.returns-then-has_escape-clause-answer
returns-then-has_escape-clause-answer c = c.answer.ensures.answer (frame_at c.args.piece.now) (c.frame.ensures c.args.piece.now c.read_piece.ensures)

pub plain_frame-requires : goal.plain_frame-requires
plain_frame-requires c = c.has_escape.ensures.plain c.if-has_escape.false

pub returns-clause-answer : goal.returns-clause-answer
returns-clause-answer c = c.answer-2.ensures.answer (frame_at c.args.piece.now) c.plain_frame.ensures
