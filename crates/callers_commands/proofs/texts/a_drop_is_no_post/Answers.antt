use Rattle.callers_commands.proofs.TextLemmas.{brief_of_drop}
use Rattle.callers_commands.proofs.texts.a_drop_is_no_post.Goals as goal

pub returns : goal.returns
returns g c = rw (← brief_of_drop c.args.desc.now c.args.report.now c.requires.handlers c.requires.report) c.brief.ensures
