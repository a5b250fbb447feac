use Rattle.std.proofs.Common.{refl}
use Rattle.std.proofs.lemmas.Result.{IfOk-from_err}
use Rattle.mate_cli.proofs.AuditLemmas.{quiet-serial}
use Rattle.command_steps.specs.Steps.{goes_on}
use Rattle.command_steps.proofs.Laws.{reads-as, reads-err}
use Rattle.command_documents.proofs.OwedLemmas.{owed-stops}
use Rattle.mate_cli.proofs.audit.audit_of.Goals as goal

pub returns-in_err-report-clause-does : goal.returns-in_err-report-clause-does
returns-in_err-report-clause-does g c = owed-stops c.in_err-report.field-0.0 c.from_residual.result c.in_err-report.ensures.does c.from_residual.ensures.1

pub returns-in_err-serial-clause-does : goal.returns-in_err-serial-clause-does
returns-in_err-serial-clause-does g c =
    goes_on c.in_ok-report.report c.in_ok-report.ensures.does
    (owed-stops c.in_err-serial.field-0.0 c.from_residual-in_err-serial.result c.in_err-serial.ensures c.from_residual-in_err-serial.ensures.1)

pub returns-clause-does : goal.returns-clause-does
returns-clause-does g c = goes_on c.in_ok-report.report c.in_ok-report.ensures.does (goes_on tt c.in_ok-serial.ensures refl)

pub returns-in_err-report-clause-reads : goal.returns-in_err-report-clause-reads
returns-in_err-report-clause-reads g c = reads-err c.in_err-report.field-0.0 c.from_residual.result c.in_err-report.ensures.reads c.from_residual.ensures.1

pub returns-in_err-serial-clause-reads : goal.returns-in_err-serial-clause-reads
returns-in_err-serial-clause-reads g c =
    reads-as c.in_ok-report.ensures.reads
    (quiet-serial c.args.desc.now c.args.programs.now c.in_ok-report.report c.in_err-serial.field-0.0 c.from_residual-in_err-serial.result c.in_err-serial.ensures
    c.from_residual-in_err-serial.ensures.1)

pub returns-clause-reads : goal.returns-clause-reads
returns-clause-reads g c = reads-as c.in_ok-report.ensures.reads (λ unread. unread)

pub returns-in_err-report-clause-writable : goal.returns-in_err-report-clause-writable
returns-in_err-report-clause-writable g c = IfOk-from_err c.from_residual.result _ c.from_residual.ensures.0

pub returns-in_err-serial-clause-writable : goal.returns-in_err-serial-clause-writable
returns-in_err-serial-clause-writable g c = IfOk-from_err c.from_residual-in_err-serial.result _ c.from_residual-in_err-serial.ensures.0
