use Rattle.command_programs.proofs.OnePrograms.{script_agrees}
use Rattle.command_programs.proofs.laws.file_has_one_script.Goals as goal

pub returns : goal.returns
returns c names d name = script_agrees names d name
