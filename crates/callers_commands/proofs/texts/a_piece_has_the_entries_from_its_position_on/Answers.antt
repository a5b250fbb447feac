use Rattle.callers_commands.proofs.TextLemmas.{piece_of_reset}
use Rattle.callers_commands.proofs.texts.a_piece_has_the_entries_from_its_position_on.Goals as goal

pub returns : goal.returns
returns g c = rw (← piece_of_reset c.args.desc.now c.args.log.now c.requires) c.write_event.ensures.writes
