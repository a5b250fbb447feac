use Rattle.command_programs.proofs.SameMeaning.{meaning-same}
use Rattle.command_programs.proofs.laws.same_programs_mean_the_same.Goals as goal

pub returns : goal.returns
returns c d ps qs same = meaning-same d ps qs same
