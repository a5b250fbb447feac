use Rattle.command_steps.proofs.AcceptanceLemmas.{one_tree, one_refusal, apart, some}
use Rattle.command_steps.proofs.acceptance.acceptance_law.Goals as goal

pub returns : goal.returns
returns c = record { one_tree = one_tree; one_refusal = one_refusal; apart = apart; some = some }
