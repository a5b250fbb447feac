use Rattle.std.proofs.Common.{refl, Ok, Err}
use Rattle.command_steps.specs.CapsuleFiles.{capsule}
use Rattle.command_steps.specs.HeldCapsules.{parts_held}
use Rattle.command_steps.specs.Steps.{goes_on}
use Rattle.command_steps.proofs.Laws.{reads-as, reads-err, reads-then}
use Rattle.command_documents.proofs.OwedLemmas.{owed-stops}
use Rattle.command_documents.proofs.MachineLemmas.{at_machine}
use Rattle.std.proofs.lemmas.Result.{IfOk-from_err}
use Rattle.command_documents.proofs.check.output.Goals as goal

pub returns-in_err-machine-clause-does : goal.returns-in_err-machine-clause-does
returns-in_err-machine-clause-does g c = owed-stops c.in_err-machine.field-0.0 c.from_residual.result c.in_err-machine.ensures.does c.from_residual.ensures.1

pub returns-in_err-capsule-clause-does : goal.returns-in_err-capsule-clause-does
returns-in_err-capsule-clause-does g c =
    goes_on c.in_ok-machine.machine c.in_ok-machine.ensures.does
    (owed-stops c.in_err-capsule.field-0.0 c.from_residual-in_err-capsule.result
    (at_machine (λ f d. capsule f d c.args.name.now (Err c.in_err-capsule.field-0.0)) c.in_ok-machine.machine c.description.result.now c.description.ensures c.in_ok-machine.ensures.reads c.in_err-capsule.ensures.does)
    c.from_residual-in_err-capsule.ensures.1)

pub returns-clause-does : goal.returns-clause-does
returns-clause-does g c =
    let held = c.in_ok-capsule.capsule.value in
    goes_on c.in_ok-machine.machine c.in_ok-machine.ensures.does
    (goes_on (parts_held held)
    (at_machine (λ f d. capsule f d c.args.name.now (Ok (parts_held held))) c.in_ok-machine.machine c.description.result.now c.description.ensures c.in_ok-machine.ensures.reads c.in_ok-capsule.ensures.does)
    refl)

pub returns-in_err-machine-clause-reads : goal.returns-in_err-machine-clause-reads
returns-in_err-machine-clause-reads g c = reads-err c.in_err-machine.field-0.0 c.from_residual.result c.in_err-machine.ensures.reads c.from_residual.ensures.1

pub returns-in_err-machine-clause-writable : goal.returns-in_err-machine-clause-writable
returns-in_err-machine-clause-writable g c = IfOk-from_err c.from_residual.result _ c.from_residual.ensures.0

pub returns-in_err-capsule-clause-reads : goal.returns-in_err-capsule-clause-reads
returns-in_err-capsule-clause-reads g c =
    reads-then c.in_ok-machine.ensures.reads
    (reads-err c.in_err-capsule.field-0.0 c.from_residual-in_err-capsule.result c.in_err-capsule.ensures.reads c.from_residual-in_err-capsule.ensures.1)

pub returns-in_err-capsule-clause-writable : goal.returns-in_err-capsule-clause-writable
returns-in_err-capsule-clause-writable g c = IfOk-from_err c.from_residual-in_err-capsule.result _ c.from_residual-in_err-capsule.ensures.0

pub returns-clause-reads : goal.returns-clause-reads
returns-clause-reads g c = reads-then c.in_ok-machine.ensures.reads (reads-as c.in_ok-capsule.ensures.reads (λ none. none))
