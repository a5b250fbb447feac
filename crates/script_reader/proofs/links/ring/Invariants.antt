use Rattle.std.proofs.Common.{◌≡◌}
use Rattle.script_reader.specs.Made.{chain}
use Rattle.script_reader.proofs.links.ring.Given as goal

abbrev pub invariant-loop-node : goal.invariant-loop-node
invariant-loop-node l = l.links ≡ chain l.node
