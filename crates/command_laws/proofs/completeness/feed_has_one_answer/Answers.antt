use Rattle.command_laws.proofs.OneCommand.{feed_agrees}
use Rattle.command_laws.proofs.completeness.feed_has_one_answer.Goals as goal

pub returns : goal.returns
returns c names vm name = feed_agrees names vm name
