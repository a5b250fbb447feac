-- The calls before the place are gone.
use Rattle.std.proofs.Common.{◌≡◌, ◌++◌, map, take, drop}
use Rattle.split_phase.specs.Calls.{gone}
use Rattle.split_phase.proofs.pending.cancel_all.Given as goal

abbrev pub invariant-loop-call : goal.invariant-loop-call
invariant-loop-call l = l.call-items ≡ map gone (take l.call-index l.fn.calls) ++ drop l.call-index l.fn.calls
