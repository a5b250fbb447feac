-- There are as many places as there is room for.
use Rattle.std.proofs.Common.{List, Option, length, ap, sym, ◌∙◌, arith}
use Rattle.std.specs.Prelude.{vec_capacity}
use Rattle.node_state.specs.declared.seat.Seat.{Seat}
use Rattle.node_state.proofs.SeatLemmas.{seats-count}
use Rattle.node_state.proofs.seats.Seats.len.Goals as goal

pub returns-clause-count : goal.returns-clause-count
returns-clause-count c =
    c.capacity.ensures ∙ sym (seats-count (vec_capacity c.self.inside.places) c.self.inside.places.items) ∙ ap (λ (l : List (Option Seat)). length l) c.self.view_is

pub returns-clause-few : goal.returns-clause-few
returns-clause-few c =
    let few = c.self.invariant.few in
    let capacity = c.capacity.ensures in
    omega (arith, few, capacity)
