-- The pace of a node, as its ring and its seats give it.
use Rattle.std.specs.Prelude.{◌≡◌, true, Some, map}
use Rattle.mate_num.specs.declared.id.ContextId.{ContextId}
use Rattle.mate_journal.specs.Journal.{is_started, NodeState}
use Rattle.node_state.specs.declared.seat.Seat.{Seat}
use Rattle.node_state.specs.declared.contexts.Contexts.{Contexts}
use Rattle.node_state.specs.At.{at}
use Rattle.node_state.specs.Queue.{invocation_in}
use Rattle.mate_journal.specs.Pace.{Pace}

pub record IsPace (r : NodeState) (s : Contexts) (p : Pace) : Type 0 where
  pub line : p.line ≡ map (invocation_in s) s.ring
  pub counts : (c : ContextId) (t : Seat) → (at s c).seat ≡ Some t → is_started (r.invocations t.inv).phase ≡ true
      → t.count ≡ p.counts t.inv
