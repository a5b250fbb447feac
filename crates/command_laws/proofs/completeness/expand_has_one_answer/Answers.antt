use Rattle.command_laws.proofs.OneCommand.{expand_agrees}
use Rattle.command_laws.proofs.completeness.expand_has_one_answer.Goals as goal

pub returns : goal.returns
returns c names name = expand_agrees names name
