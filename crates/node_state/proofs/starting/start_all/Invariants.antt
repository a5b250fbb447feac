use Rattle.std.specs.Prelude.{◌≡◌}
use Rattle.node_state.specs.Totals.{owes}
use Rattle.node_state.specs.Starting.{StartsSome}
use Rattle.node_state.proofs.starting.start_all.Given as goal

abbrev pub invariant-loop-at : goal.invariant-loop-at
invariant-loop-at l = record {
  starts : StartsSome l.description l.fn.parts l.parts l.at;
  gone : l.parts.log.gone ≡ l.fn.parts.log.gone;
}

abbrev pub decreases-loop-at : goal.decreases-loop-at
decreases-loop-at l = owes l.parts.contexts
