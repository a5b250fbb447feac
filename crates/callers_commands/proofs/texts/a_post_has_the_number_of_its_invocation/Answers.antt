use Rattle.callers_commands.proofs.TextLemmas.{piece_of_post}
use Rattle.callers_commands.proofs.texts.a_post_has_the_number_of_its_invocation.Goals as goal

pub returns : goal.returns
returns g c = rw (← piece_of_post c.args.desc.now c.args.log.now c.requires.handlers c.requires.entries) c.write_event.ensures.writes
