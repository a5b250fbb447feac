use Rattle.command_laws.proofs.OneCommand.{table_agrees}
use Rattle.command_laws.proofs.completeness.table_has_one_answer.Goals as goal

pub returns : goal.returns
returns c names vm = table_agrees names vm
