use Rattle.command_steps.specs.Steps.{goes_on}
use Rattle.command_steps.proofs.Laws.{stops_by}
use Rattle.command_programs.proofs.named.programs_in_script.Goals as goal

pub returns-in_err-script-clause-does : goal.returns-in_err-script-clause-does
returns-in_err-script-clause-does g c = stops_by c.in_err-script.field-0.0 c.from_residual.result c.in_err-script.ensures.does c.from_residual.ensures.1

pub returns-clause-does : goal.returns-clause-does
returns-clause-does g c = goes_on c.in_ok-script.script c.in_ok-script.ensures.does c.programs_of.ensures.does
