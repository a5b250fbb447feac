use Rattle.ts_checked.specs.Checked.{checked_tree}
use Rattle.command_steps.proofs.AcceptingLemmas.{text_refused, script_accepted, script_refused}
use Rattle.command_steps.proofs.accepting.accept_with.Goals as goal

pub returns-in_err-script-clause-tells : goal.returns-in_err-script-clause-tells
returns-in_err-script-clause-tells c =
    text_refused c.args.desc.now c.args.bytes.now c.in_err-script.field-0.0 c.in_err-script.ensures c.from_residual.result c.from_residual.ensures.1

pub returns-in-Ok-clause-tells : goal.returns-in-Ok-clause-tells
returns-in-Ok-clause-tells c =
    script_accepted c.args.desc.now c.args.bytes.now c.in_ok-script.script (checked_tree c.in-Ok.checked) c.in_ok-script.ensures c.in-Ok.ensures.tree

pub returns-in-Err-clause-tells : goal.returns-in-Err-clause-tells
returns-in-Err-clause-tells c =
    script_refused c.args.desc.now c.args.bytes.now c.in_ok-script.script c.in-Err.fault c.in_ok-script.ensures c.in-Err.ensures.tree
