use Rattle.command_programs.proofs.GivenLemmas.{given-right}
use Rattle.command_programs.proofs.laws.files_give_right_programs.Goals as goal

pub returns : goal.returns
returns c f d fold s ps right numbered given = given-right f d fold s ps right numbered given
