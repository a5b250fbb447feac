use Rattle.command_steps.proofs.CodeLemmas.{means-right, means-accepted}
use Rattle.command_steps.proofs.code_laws.code_means_its_tree.Goals as goal

pub returns : goal.returns
returns c = record { right = means-right; accepted = means-accepted }
