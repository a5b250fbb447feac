use Rattle.std.proofs.lemmas.Result.{IfOk-from_err}
use Rattle.mate_cli.specs.Audit.{audit_of}
use Rattle.command_steps.specs.Steps.{goes_on}
use Rattle.command_steps.proofs.Laws.{moved}
use Rattle.command_documents.proofs.OwedLemmas.{owed-stops}
use Rattle.command_documents.specs.Outputs.{owed_in}
use Rattle.mate_cli.proofs.audit.audit_by.Goals as goal

pub returns-in_err-programs-clause-does : goal.returns-in_err-programs-clause-does
returns-in_err-programs-clause-does g c = owed-stops c.in_err-programs.field-0.0 c.from_residual.result c.in_err-programs.ensures.does c.from_residual.ensures.1

pub returns-clause-does : goal.returns-clause-does
returns-clause-does g c =
    goes_on c.in_ok-programs.programs c.in_ok-programs.ensures.does
    (moved (λ f. audit_of f c.args.desc.now c.in_ok-programs.programs c.args.words.report.now (owed_in c.audit_of.result)) c.in_ok-programs.ensures.reads c.audit_of.ensures.does)

pub returns-in_err-programs-clause-writable : goal.returns-in_err-programs-clause-writable
returns-in_err-programs-clause-writable g c = IfOk-from_err c.from_residual.result _ c.from_residual.ensures.0

pub returns-clause-writable : goal.returns-clause-writable
returns-clause-writable g c = c.audit_of.ensures.writable
