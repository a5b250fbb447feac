use Rattle.std.proofs.Common.{◌≡◌, ◌++◌, map, take, drop}
use Rattle.capsule_exchange.specs.Steps.{forgets}
use Rattle.capsule_exchange.proofs.handlers.forget_each.Given as goal

abbrev pub invariant-loop-state : goal.invariant-loop-state
invariant-loop-state l = l.state-items ≡ map forgets (take l.state-index l.fn.states) ++ drop l.state-index l.fn.states
