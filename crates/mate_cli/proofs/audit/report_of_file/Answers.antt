use Rattle.std.proofs.Common.{ℕ, List, subst}
use Rattle.mate_cli.specs.Audit.{report_in}
use Rattle.mate_cli.proofs.AuditLemmas.{quiet-report}
use Rattle.command_steps.specs.Steps.{goes_on}
use Rattle.command_steps.proofs.Laws.{stops_by, reads-as, reads-err}
use Rattle.report_writer.specs.Tidy.{IsTidy}
use Rattle.command_programs.proofs.ReadLemmas.{if-err}
use Rattle.mate_cli.proofs.audit.report_of_file.Goals as goal

pub returns-in_err-bytes-clause-does : goal.returns-in_err-bytes-clause-does
returns-in_err-bytes-clause-does g c = stops_by c.in_err-bytes.field-0.0 c.from_residual.result c.in_err-bytes.ensures.does c.from_residual.ensures.1

pub returns-clause-does : goal.returns-clause-does
returns-clause-does g c =
    goes_on c.in_ok-bytes.bytes c.in_ok-bytes.ensures.does
    (subst (λ (bs : List ℕ). report_in c.args.desc.now bs c.report_in.result) c.as_slice.ensures.value c.report_in.ensures.does)

pub returns-in_err-bytes-clause-reads : goal.returns-in_err-bytes-clause-reads
returns-in_err-bytes-clause-reads g c = reads-err c.in_err-bytes.field-0.0 c.from_residual.result c.in_err-bytes.ensures.reads c.from_residual.ensures.1

pub returns-clause-reads : goal.returns-clause-reads
returns-clause-reads g c = reads-as c.in_ok-bytes.ensures.reads (quiet-report c.args.desc.now c.as_slice.result.now c.report_in.result c.report_in.ensures.does)

pub returns-in_err-bytes-clause-tidy : goal.returns-in_err-bytes-clause-tidy
returns-in_err-bytes-clause-tidy g c = if-err (IsTidy c.args.desc.now) c.in_err-bytes.field-0.0 c.from_residual.result c.from_residual.ensures.1

pub returns-clause-tidy : goal.returns-clause-tidy
returns-clause-tidy g c = c.report_in.ensures.tidy
