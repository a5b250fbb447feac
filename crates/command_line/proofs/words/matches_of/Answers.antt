use Rattle.command_line.proofs.LineLemmas.{are_matches, of_command_simple_and_free}
use Rattle.command_line.proofs.words.matches_of.Goals as goal

pub returns-in-Ok : goal.returns-in-Ok
returns-in-Ok c =
    are_matches _ _ _ c.in_ok-command.ensures c.in-Ok.ensures.matches (c.in-Ok.ensures.kinds (of_command_simple_and_free _ c.in_ok-command.ensures))
