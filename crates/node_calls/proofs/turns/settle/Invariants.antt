use Rattle.std.specs.Prelude.{◌≡◌}
use Rattle.node_state.specs.Totals.{falls}
use Rattle.node_calls.specs.Pacing.{most, SettlesSome}
use Rattle.node_calls.proofs.turns.settle.Given as goal

abbrev pub invariant-loop-ctx : goal.invariant-loop-ctx
invariant-loop-ctx l = record {
  settles : SettlesSome l.description l.fn.parts l.parts l.at;
  gone : l.parts.log.gone ≡ l.fn.parts.log.gone;
  handlers : l.parts.handlers ≡ l.fn.parts.handlers;
}

abbrev pub decreases-loop-ctx : goal.decreases-loop-ctx
decreases-loop-ctx l = falls (most l.description) l.parts.contexts
