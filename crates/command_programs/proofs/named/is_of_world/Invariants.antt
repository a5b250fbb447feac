use Rattle.std.proofs.Common.{◌≡◌, length}
use Rattle.script_steps.specs.Lines.{lines}
use Rattle.command_programs.specs.Named.{is_of_world, are_of_world}
use Rattle.command_programs.proofs.named.is_of_world.Given as goal

abbrev pub invariant-loop-line : goal.invariant-loop-line
invariant-loop-line l = is_of_world l.bytes ≡ are_of_world (lines l.lines)

abbrev pub decreases-loop-line : goal.decreases-loop-line
decreases-loop-line l = length l.lines
