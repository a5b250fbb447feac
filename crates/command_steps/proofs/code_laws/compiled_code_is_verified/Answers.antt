use Rattle.command_steps.proofs.JointLemmas.{taken, code}
use Rattle.command_steps.proofs.code_laws.compiled_code_is_verified.Goals as goal

pub returns : goal.returns
returns c = record { taken = taken; code = code }
