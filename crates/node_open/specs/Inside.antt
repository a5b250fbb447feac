-- How a node's fields are seen.
use Rattle.std.specs.Prelude.{ℕ, Option, map}
use Rattle.node_state.specs.declared.seat.Seat.{Seat}
use Rattle.node_state.specs.Queue.{number_at, invocation_in}
use Rattle.node_state.specs.Starting.{Rests}
use Rattle.node_state.specs.Totals.{seat_count}
use Rattle.node_open.specs.declared.open_node.OpenNode.TheInside.{Inside}
use Rattle.node_open.specs.View.{NodeView}

abbrev pub entry_of : Option Seat → ℕ × ℕ
entry_of o = (number_at o, seat_count o)

abbrev pub view_of : Inside → NodeView
view_of n = record {
  description = n.machine;
  log = n.parts.log.all;
  gone = n.parts.log.gone;
  line = map (invocation_in n.parts.contexts) n.parts.contexts.ring;
  counts = map entry_of n.parts.contexts.seats;
  places = n.parts.handlers.room;
}

-- what each node keeps: it rests
pub record IsResting (n : Inside) : Type 0 where
  pub rests : Rests n.machine n.parts
