-- The contexts begin without seats, locks, ready ones and calls.
use Rattle.node_state.proofs.ContextLemmas.{AreIdle-from}
use Rattle.node_state.proofs.contexts.Contexts.new.Goals as goal

pub returns-clause-idle : goal.returns-clause-idle
returns-clause-idle c =
    AreIdle-from record { seats = c.in_ok-seats.seats; locks = c.new-3.result; ring = c.in_ok-ring.ring; pending = c.new-4.result }
    c.in_ok-seats.ensures.free c.new-3.ensures c.in_ok-ring.ensures c.new-4.ensures
