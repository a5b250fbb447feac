use Rattle.command_steps.proofs.Laws.{fails_as}
use Rattle.command_steps.proofs.source.accepted_with.Goals as goal

pub returns-in-Some-clause-does : goal.returns-in-Some-clause-does
returns-in-Some-clause-does c =
    fails_as c.in-Some.cause c.in_file.result (c.in-Some.ensures c.args.desc.now c.args.bytes.now c.in-Err.ensures.tells) c.in_file.ensures
