-- All seats are taken away, and so are the locks, the ring and the calls.
use Rattle.node_state.proofs.ContextLemmas.{AreIdle-from}
use Rattle.node_state.proofs.contexts.Contexts.clear.Goals as goal

pub returns-clause-idle : goal.returns-clause-idle
returns-clause-idle c =
    AreIdle-from record { seats = c.clear.new.self; locks = c.clear-2.new.self; ring = c.clear-3.new.self; pending = c.cancel.new.self }
    c.clear.ensures.free c.clear-2.ensures c.clear-3.ensures c.cancel.ensures
