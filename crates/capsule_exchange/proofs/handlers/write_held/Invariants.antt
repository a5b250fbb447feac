use Rattle.std.proofs.Common.{◌≡◌, map, take}
use Rattle.capsule_exchange.specs.declared.handler_state.HandlerState.{HandlerState}
use Rattle.capsule_exchange.proofs.handlers.write_held.Given as goal

abbrev pub invariant-loop-state : goal.invariant-loop-state
invariant-loop-state l = l.versions.items ≡ map (λ (s : HandlerState). s.held) (take l.state-index l.states)
