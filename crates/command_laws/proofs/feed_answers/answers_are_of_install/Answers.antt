use Rattle.command_laws.proofs.AnswerLemmas.{all}
use Rattle.command_laws.proofs.feed_answers.answers_are_of_install.Goals as goal

pub returns : goal.returns
returns c = all
