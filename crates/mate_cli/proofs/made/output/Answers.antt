use Rattle.command_steps.specs.Steps.{goes_on}
use Rattle.command_steps.proofs.Laws.{reads-as}
use Rattle.command_documents.proofs.OwedLemmas.{owed-stops}
use Rattle.command_documents.proofs.ReadsLemmas.{quiet-memory}
use Rattle.std.proofs.lemmas.Result.{IfOk-from_err}
use Rattle.mate_cli.proofs.made.output.Goals as goal

pub returns-in_err-machine-clause-does : goal.returns-in_err-machine-clause-does
returns-in_err-machine-clause-does g c = owed-stops c.in_err-machine.field-0.0 c.from_residual.result c.in_err-machine.ensures.does c.from_residual.ensures.1

pub returns-clause-does : goal.returns-clause-does
returns-clause-does g c = goes_on c.in_ok-machine.machine c.in_ok-machine.ensures.does c.run_of_number.ensures.does

pub returns-in_err-machine-clause-writable : goal.returns-in_err-machine-clause-writable
returns-in_err-machine-clause-writable g c = IfOk-from_err c.from_residual.result _ c.from_residual.ensures.0

pub returns-clause-writable : goal.returns-clause-writable
returns-clause-writable g c = c.run_of_number.ensures.writable

pub returns-clause-reads : goal.returns-clause-reads
returns-clause-reads g c = reads-as c.in_ok-machine.ensures.reads (quiet-memory c.run_of_number.result c.run_of_number.ensures.memory)
