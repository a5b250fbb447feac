use Rattle.std.proofs.Common.{subst}
use Rattle.std.proofs.lemmas.Result.{IfOk-from_err}
use Rattle.mate_cli.specs.Audit.{audit_by}
use Rattle.command_steps.specs.Parts.{Folder}
use Rattle.command_steps.specs.Steps.{goes_on}
use Rattle.command_steps.proofs.Laws.{moved}
use Rattle.command_documents.proofs.OwedLemmas.{owed-stops}
use Rattle.vm_shape.specs.declared.description.Description.{Description}
use Rattle.command_documents.specs.Outputs.{owed_in}
use Rattle.mate_cli.proofs.audit.output.Goals as goal

pub returns-in_err-machine-clause-does : goal.returns-in_err-machine-clause-does
returns-in_err-machine-clause-does g c = owed-stops c.in_err-machine.field-0.0 c.from_residual.result c.in_err-machine.ensures.does c.from_residual.ensures.1

pub returns-clause-does : goal.returns-clause-does
returns-clause-does g c =
    let f : Folder = record { told = g.F.Files.contents c.args.files.now; steady = g.F.Files.steady c.args.files.now } in
    goes_on c.in_ok-machine.machine c.in_ok-machine.ensures.does
    (subst (λ (d : Description). audit_by f c.args.words.fold d c.args.words.script.now c.args.words.report.now (owed_in c.audit_by.result)) c.description.ensures
    (moved (λ f. audit_by f c.args.words.fold c.description.result.now c.args.words.script.now c.args.words.report.now (owed_in c.audit_by.result)) c.in_ok-machine.ensures.reads
    c.audit_by.ensures.does))

pub returns-in_err-machine-clause-writable : goal.returns-in_err-machine-clause-writable
returns-in_err-machine-clause-writable g c = IfOk-from_err c.from_residual.result _ c.from_residual.ensures.0

pub returns-clause-writable : goal.returns-clause-writable
returns-clause-writable g c = c.audit_by.ensures.writable
