use Rattle.std.proofs.Common.{◌∙◌, ap}
use Rattle.command_line.specs.Commands.{task_of}
use Rattle.callers_commands.proofs.words.no_version_begins_with_0.Goals as goal

pub returns : goal.returns
returns c = c.command_of.ensures ∙ ap task_of c.requires
