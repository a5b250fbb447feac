use Rattle.std.proofs.Common.{◌∙◌, ap}
use Rattle.command_line.specs.Commands.{task_of}
use Rattle.callers_commands.proofs.words.a_table_takes_no_flag.Goals as goal

pub returns : goal.returns
returns c = c.command_of.ensures ∙ ap task_of c.requires
