use Rattle.command_steps.specs.Expansions.{expansion_in}
use Rattle.command_steps.specs.Steps.{goes_on}
use Rattle.command_steps.proofs.ExpansionLemmas.{refused_in}
use Rattle.command_steps.proofs.Laws.{stops_by}
use Rattle.command_steps.proofs.expansion.expandable_bytes.Goals as goal

pub returns-in_err-script : goal.returns-in_err-script
returns-in_err-script c =
    stops_by c.in_err-script.field-0.0 (expansion_in c.from_residual.result) c.in_err-script.ensures (refused_in c.in_err-script.field-0.0 c.from_residual.result c.from_residual.ensures.1)

pub returns : goal.returns
returns c = goes_on c.in_ok-script.script c.in_ok-script.ensures c.expandable.ensures
