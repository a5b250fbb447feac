use Rattle.callers_commands.proofs.TextLemmas.{last_line}
use Rattle.callers_commands.proofs.texts.the_last_line_has_its_records_first.Goals as goal

pub returns : goal.returns
returns g c = rw (← last_line) c.write_end.ensures
