use Rattle.std.proofs.Common.{ℕ, List, subst}
use Rattle.command_steps.specs.Parts.{machine_text}
use Rattle.command_steps.specs.Steps.{goes_on}
use Rattle.command_steps.proofs.Laws.{stops_by, reads-err}
use Rattle.command_steps.proofs.parts.machine_file.Goals as goal

pub returns-in_err-bytes-clause-does : goal.returns-in_err-bytes-clause-does
returns-in_err-bytes-clause-does g c = stops_by c.in_err-bytes.field-0.0 c.from_residual.result c.in_err-bytes.ensures.does c.from_residual.ensures.1

pub returns-clause-does : goal.returns-clause-does
returns-clause-does g c =
    goes_on c.in_ok-bytes.bytes c.in_ok-bytes.ensures.does (subst (λ (bs : List ℕ). machine_text bs c.machine_text.result) c.as_slice.ensures.value c.machine_text.ensures)

pub returns-in_err-bytes-clause-reads : goal.returns-in_err-bytes-clause-reads
returns-in_err-bytes-clause-reads g c = reads-err c.in_err-bytes.field-0.0 c.from_residual.result c.in_err-bytes.ensures.reads c.from_residual.ensures.1
