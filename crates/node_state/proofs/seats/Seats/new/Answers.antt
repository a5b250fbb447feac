-- Nobody is at any place.
use Rattle.std.proofs.Common.{List, Option, length, ap, ◌∙◌, arith}
use Rattle.std.specs.Prelude.{vec_capacity}
use Rattle.node_state.specs.declared.seat.Seat.{Seat}
use Rattle.node_state.proofs.SeatLemmas.{seats-count, seats-none}
use Rattle.node_state.proofs.seats.Seats.new.Goals as goal

pub invariant_of-result : goal.invariant_of-result
invariant_of-result c =
    let none = ap (λ (l : List (Option Seat)). length l) c.in_ok-places.ensures.items in
    let room = c.in_ok-places.ensures.exact in
    let few = c.requires in
    record { within = omega (arith, none); few = omega (arith, room, few) }

pub returns-clause-free : goal.returns-clause-free
returns-clause-free c = λ k. seats-none (vec_capacity c.in_ok-places.places) c.in_ok-places.places.items c.in_ok-places.ensures.items k

pub returns-clause-count : goal.returns-clause-count
returns-clause-count c = seats-count (vec_capacity c.in_ok-places.places) c.in_ok-places.places.items ∙ c.in_ok-places.ensures.exact
