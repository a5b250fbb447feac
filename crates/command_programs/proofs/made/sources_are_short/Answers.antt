use Rattle.command_programs.proofs.MadeLemmas.{short-source}
use Rattle.command_programs.proofs.made.sources_are_short.Goals as goal

pub returns : goal.returns
returns c = short-source
