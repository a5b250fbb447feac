use Rattle.std.proofs.Common.{ℕ, List, subst}
use Rattle.command_steps.specs.Steps.{goes_on}
use Rattle.command_steps.proofs.Laws.{stops_by, reads-as, reads-err}
use Rattle.command_programs.specs.Numbers.{NamesInOrder}
use Rattle.command_programs.specs.Scripts.{script_text}
use Rattle.command_programs.proofs.ReadLemmas.{if-err, script-read}
use Rattle.script_steps.specs.Steps.{IsRightSteps}
use Rattle.command_programs.proofs.script.script_of.Goals as goal

pub returns-in_err-bytes-clause-does : goal.returns-in_err-bytes-clause-does
returns-in_err-bytes-clause-does g c = stops_by c.in_err-bytes.field-0.0 c.from_residual.result c.in_err-bytes.ensures.does c.from_residual.ensures.1

pub returns-clause-does : goal.returns-clause-does
returns-clause-does g c =
    goes_on c.in_ok-bytes.bytes c.in_ok-bytes.ensures.does
    (subst (λ (bs : List ℕ). script_text c.args.desc.now bs c.script_in.result) c.as_slice.ensures.value c.script_in.ensures.does)

pub returns-in_err-bytes-clause-reads : goal.returns-in_err-bytes-clause-reads
returns-in_err-bytes-clause-reads g c = reads-err c.in_err-bytes.field-0.0 c.from_residual.result c.in_err-bytes.ensures.reads c.from_residual.ensures.1

pub returns-in_err-bytes-clause-right : goal.returns-in_err-bytes-clause-right
returns-in_err-bytes-clause-right g c = if-err (IsRightSteps c.args.desc.now) c.in_err-bytes.field-0.0 c.from_residual.result c.from_residual.ensures.1

pub returns-in_err-bytes-clause-in_order : goal.returns-in_err-bytes-clause-in_order
returns-in_err-bytes-clause-in_order g c = if-err NamesInOrder c.in_err-bytes.field-0.0 c.from_residual.result c.from_residual.ensures.1

pub returns-clause-reads : goal.returns-clause-reads
returns-clause-reads g c = reads-as c.in_ok-bytes.ensures.reads (script-read c.args.desc.now c.as_slice.result.now c.script_in.result c.script_in.ensures.does)

pub returns-clause-right : goal.returns-clause-right
returns-clause-right g c = c.script_in.ensures.right

pub returns-clause-in_order : goal.returns-clause-in_order
returns-clause-in_order g c = c.script_in.ensures.in_order
