use Rattle.std.proofs.Common.{◌≡◌, [], replicate}
use Rattle.script_reader.proofs.made.unnamed.Given as goal

abbrev pub invariant-loop : goal.invariant-loop
invariant-loop l = l.names ≡ replicate l.counter []
