use Rattle.command_laws.proofs.OneCommand.{compile_agrees}
use Rattle.command_laws.proofs.completeness.compile_has_one_answer.Goals as goal

pub returns : goal.returns
returns c names fold vm handler version name = compile_agrees names fold vm handler version name
