use Rattle.std.proofs.Common.{◌≡◌, ◌<◌, None}
use Rattle.mate_num.specs.declared.id.ContextId.{ContextId}
use Rattle.node_state.specs.At.{at}
use Rattle.node_state.proofs.contexts.Contexts.first_waiting.Given as goal

abbrev pub invariant-loop-place : goal.invariant-loop-place
invariant-loop-place l = (k : ContextId) → k.0 < l.place → (at l.self k).call ≡ None
