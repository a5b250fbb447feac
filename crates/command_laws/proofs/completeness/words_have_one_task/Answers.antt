use Rattle.command_laws.proofs.OneCommand.{task_agrees}
use Rattle.command_laws.proofs.completeness.words_have_one_task.Goals as goal

pub returns : goal.returns
returns c words = task_agrees words
