use Rattle.std.proofs.Common.{refl}
use Rattle.command_steps.specs.Steps.{goes_on}
use Rattle.command_steps.proofs.Laws.{reads-as, reads-err}
use Rattle.command_documents.proofs.OwedLemmas.{owed-stops}
use Rattle.std.proofs.lemmas.Result.{IfOk-from_err}
use Rattle.command_documents.proofs.table.output.Goals as goal

pub returns-in_err-machine-clause-does : goal.returns-in_err-machine-clause-does
returns-in_err-machine-clause-does g c = owed-stops c.in_err-machine.field-0.0 c.from_residual.result c.in_err-machine.ensures.does c.from_residual.ensures.1

pub returns-clause-does : goal.returns-clause-does
returns-clause-does g c = goes_on c.in_ok-machine.machine c.in_ok-machine.ensures.does refl

pub returns-in_err-machine-clause-reads : goal.returns-in_err-machine-clause-reads
returns-in_err-machine-clause-reads g c = reads-err c.in_err-machine.field-0.0 c.from_residual.result c.in_err-machine.ensures.reads c.from_residual.ensures.1

pub returns-in_err-machine-clause-writable : goal.returns-in_err-machine-clause-writable
returns-in_err-machine-clause-writable g c = IfOk-from_err c.from_residual.result _ c.from_residual.ensures.0

pub returns-clause-reads : goal.returns-clause-reads
returns-clause-reads g c = reads-as c.in_ok-machine.ensures.reads (λ none. none)

pub returns-clause-writable : goal.returns-clause-writable
returns-clause-writable g c = tt
