-- Nobody is at any place.
use Rattle.std.proofs.Common.{List, Option, length, ap, sym, ◌∙◌, arith}
use Rattle.std.specs.Prelude.{vec_capacity}
use Rattle.node_state.specs.declared.seat.Seat.{Seat}
use Rattle.node_state.proofs.SeatLemmas.{seats-count, seats-none}
use Rattle.node_state.proofs.seats.Seats.clear.Goals as goal

pub invariant_of-self : goal.invariant_of-self
invariant_of-self c =
    let none = ap (λ (l : List (Option Seat)). length l) c.clear.ensures.items in
    let room = c.self.invariant.few in
    let capacity = c.clear.ensures.capacity in
    record { within = omega (arith, none); few = omega (arith, room, capacity) }

pub returns-clause-free : goal.returns-clause-free
returns-clause-free c = λ k. seats-none (vec_capacity c.clear.new.self) c.clear.new.self.items c.clear.ensures.items k

pub returns-clause-count : goal.returns-clause-count
returns-clause-count c =
    let old = c.self.inside.places in
    seats-count (vec_capacity c.clear.new.self) c.clear.new.self.items ∙ c.clear.ensures.capacity ∙ sym (seats-count (vec_capacity old) old.items) ∙ ap (λ (l : List (Option Seat)). length l) c.self.view_is
