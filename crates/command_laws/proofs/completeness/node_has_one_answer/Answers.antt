use Rattle.command_laws.proofs.OneNode.{node_agrees}
use Rattle.command_laws.proofs.completeness.node_has_one_answer.Goals as goal

pub returns : goal.returns
returns c names fold short vm name = node_agrees names fold short vm name
