use Rattle.command_laws.proofs.OneCommand.{check_agrees}
use Rattle.command_laws.proofs.completeness.check_has_one_answer.Goals as goal

pub returns : goal.returns
returns c names vm name = check_agrees names vm name
