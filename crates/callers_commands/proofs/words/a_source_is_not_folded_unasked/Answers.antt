use Rattle.std.proofs.Common.{◌∙◌, ap}
use Rattle.command_line.specs.Commands.{task_of}
use Rattle.callers_commands.proofs.words.a_source_is_not_folded_unasked.Goals as goal

pub returns : goal.returns
returns c = c.command_of.ensures ∙ ap task_of c.requires
