use Rattle.std.proofs.Common.{inr, rules, ◌≢◌}
use Rattle.command_line.specs.Commands.{builtin_word}
use Rattle.command_steps.proofs.parts.machine_of.Goals as goal

pub returns-else-eq-clause-does : goal.returns-else-eq-clause-does
returns-else-eq-clause-does g c = let other : c.args.word.now ≢ builtin_word = search rules in inr (other, c.machine_file.ensures.does)
