use Rattle.command_steps.proofs.JointLemmas.{locks}
use Rattle.command_steps.proofs.code_laws.locks_of_compiled_code.Goals as goal

pub returns : goal.returns
returns c = locks
