use Rattle.callers_commands.proofs.AcceptingLemmas.{told_bad}
use Rattle.callers_commands.proofs.steps.a_byte_of_no_token_is_told.Goals as goal

pub returns : goal.returns
returns c = told_bad c.args.desc.now c.accept.result c.accept.ensures.tells
