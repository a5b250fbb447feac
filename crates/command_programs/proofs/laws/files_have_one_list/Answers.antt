use Rattle.command_programs.proofs.OnePrograms.{programs_agree}
use Rattle.command_programs.proofs.laws.files_have_one_list.Goals as goal

pub returns : goal.returns
returns c names d fold s = programs_agree names d fold s
