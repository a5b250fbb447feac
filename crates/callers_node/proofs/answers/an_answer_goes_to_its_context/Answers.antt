use Rattle.callers_node.proofs.AnsweredLemmas.{not_refused, both, room_left}
use Rattle.callers_node.proofs.answers.an_answer_goes_to_its_context.Goals as goal

pub step-requires-clause-room : goal.step-requires-clause-room
step-requires-clause-room c =
    room_left c.args.node.now c.answer.new.self c.args.at c.args.ctx _ c.in_ok-answer.ensures c.requires.paced.0 c.requires.paced.1 c.requires.room

pub returns-clause-goes_on : goal.returns-clause-goes_on
returns-clause-goes_on c =
    not_refused c.args.node.now c.answer.new.self c.args.at c.args.ctx _ c.in_ok-answer.ensures c.requires.paced.0 c.requires.paced.1 c.step.result _ _ c.step.ensures

pub returns-clause-value : goal.returns-clause-value
returns-clause-value c =
    both c.args.node.now c.answer.new.self c.args.at c.args.ctx _ c.in_ok-answer.ensures c.requires.paced.0 c.requires.paced.1 c.step.result c.step.new.self c.args.n _
    c.kept-kept.ensures.keeps c.step.ensures
