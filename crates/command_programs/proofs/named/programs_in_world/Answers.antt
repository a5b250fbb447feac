use Rattle.command_steps.specs.Steps.{goes_on}
use Rattle.command_steps.proofs.Laws.{stops_by}
use Rattle.command_programs.proofs.named.programs_in_world.Goals as goal

pub returns-in_err-world-clause-does : goal.returns-in_err-world-clause-does
returns-in_err-world-clause-does g c = stops_by c.in_err-world.field-0.0 c.from_residual.result c.in_err-world.ensures.does c.from_residual.ensures.1

pub returns-clause-does : goal.returns-clause-does
returns-clause-does g c = goes_on c.in_ok-world.world c.in_ok-world.ensures.does c.programs_of_world.ensures.does
