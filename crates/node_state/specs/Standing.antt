-- What is at a context whose invocation is in a phase.
use Rattle.mate_num.specs.declared.lock_set.LockSet.{LockSet}
use Rattle.mate_journal.specs.Journal.{Phase, Unposted, Queued, Ready, Waiting, Over}
use Rattle.node_state.specs.At.{At, idle, queued, ready, waiting}
use Rattle.node_state.specs.declared.seat.Seat.{Seat}

-- what is at a context whose invocation is in this phase
abbrev pub standing : Phase → Seat → LockSet → At
standing Unposted s set = idle
standing Queued s set = queued s set
standing Ready s set = ready s set
standing (Waiting f args) s set = waiting s set (f, args)
standing Over s set = idle
