use Rattle.ts_checked.specs.Checked.{checked_tree}
use Rattle.command_steps.specs.Steps.{goes_on}
use Rattle.command_steps.proofs.Laws.{stops_by}
use Rattle.command_steps.proofs.source.compiled_bytes_with.Goals as goal

pub returns-in_err-script-clause-does : goal.returns-in_err-script-clause-does
returns-in_err-script-clause-does c = stops_by c.in_err-script.field-0.0 c.from_residual.result c.in_err-script.ensures.does c.from_residual.ensures.1

pub returns-clause-does : goal.returns-clause-does
returns-clause-does c = goes_on (checked_tree c.in_ok-script.script) c.in_ok-script.ensures.does c.compiled.ensures.does
