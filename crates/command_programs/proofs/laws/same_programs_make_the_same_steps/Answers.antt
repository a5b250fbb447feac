use Rattle.command_programs.proofs.SameMeaning.{steps-same}
use Rattle.command_programs.proofs.laws.same_programs_make_the_same_steps.Goals as goal

pub returns : goal.returns
returns c s ps qs same = steps-same s ps qs same
