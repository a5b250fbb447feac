use Rattle.std.proofs.Common.{ℕ, inl, refl}
use Rattle.script_steps.specs.declared.fault.Cause.{Cause}
use Rattle.command_programs.proofs.OrderLemmas.{node_script-in_order}
use Rattle.command_programs.proofs.script.script_in.Goals as goal

pub returns-in-Ok-clause-in_order : goal.returns-in-Ok-clause-in_order
returns-in-Ok-clause-in_order c = node_script-in_order c.args.desc.now c.args.bytes.now c.in-Ok.script c.in-Ok.ensures.value

pub returns-in-Err-BadLine-clause-does : goal.returns-in-Err-BadLine-clause-does
returns-in-Err-BadLine-clause-does c =
    let value = rw c.in-Err-BadLine.field-0-is at c.in-Err-BadLine.ensures.value in
    let why : ℕ × Cause = (c.in-Err-BadLine.line, c.in-Err-BadLine.cause) in
    inl (why, value, refl)
